use Rattle.std.proofs.Common.{ℕ, List, subst, sym}
use Rattle.std.specs.List.{AllByRecursion}
use Rattle.replay_run.proofs.play.open_passes.Goals as goal
use Rattle.switch_spec.specs.declared.calls.WorkerItem.{WorkerItem}
use Rattle.tape_lanes.proofs.Items.{items_are_items}
use Rattle.tape_lanes.specs.Lanes.{IsItem}

pub open_workers-requires-clause-each : goal.open_workers-requires-clause-each
open_workers-requires-clause-each g c = λ lane. subst (λ (f : ℕ → List WorkerItem). AllByRecursion IsItem (f lane)) (sym c.requires.items) (items_are_items c.args.tape lane c.requires.each)
