use Rattle.std.proofs.Common.{ap, sym, ◌∙◌}
use Rattle.lockstep_run.specs.Speaking.{Speaking}
use Rattle.lockstep_run.proofs.Speaking.{fed}
use Rattle.lockstep_run.proofs.speaker.Speaker.feed.Goals as goal

pub returns : goal.returns
returns c =
    let given : Speaking = record { session = c.self.inside.session; lane = c.args.lane; is_short = c.self.inside.is_short } in
    fed c.args.lane c.args.piece.now c.args.link.now c.feed.new.self c.args.self.now given c.feed.new.pass (ap (λ (s : Speaking). record s { lane = c.args.lane }) c.self.view_is) c.in_ok-feed.ensures.fed
    (sym (ap (λ (s : Speaking). s.is_short) c.self-2.view_is) ∙ c.if-self.false) c.in_ok-feed.ensures.of
