use Rattle.std.proofs.Common.{◌∙◌, ◌++◌, List, ap, subst}
use Rattle.std.specs.List.{AllByRecursion}
use Rattle.event_log.specs.Lists.{ListName}
use Rattle.p4_types.specs.declared.events.Start.{Start}
use Rattle.plane_spec.specs.Config.{Event}
use Rattle.replay_run.proofs.play.seat_lanes.Goals as goal
use Rattle.replay_run.specs.Opening.{SeesRun}

pub open_passes-requires-clause-viewers : goal.open_passes-requires-clause-viewers
open_passes-requires-clause-viewers g c =
    let viewers = c.args.parts.viewers.items in
    let told = c.args.publisher.told in
    subst (λ (l : ListName). AllByRecursion (SeesRun l g.J.Naming.start) viewers) c.requires.list
    (subst (λ (s : Start). AllByRecursion (SeesRun told.list s) viewers) c.requires.start c.requires.parts.viewers)

pub new-locked-requires-clause-nothing : goal.new-locked-requires-clause-nothing
new-locked-requires-clause-nothing g c = ap (λ (l : List Event). l ++ c.args.publisher.pending) c.requires.parts.nothing ∙ c.requires.parts.none_pending
