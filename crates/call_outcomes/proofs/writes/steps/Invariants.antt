use Rattle.std.proofs.Common.{◌≡◌, map}
use Rattle.p4_types.specs.declared.events.Event.TheVariants as events
use Rattle.call_outcomes.proofs.writes.steps.Given as goal

abbrev pub invariant-loop-change : goal.invariant-loop-change
invariant-loop-change l = l.list ≡ map (events.Change l.by) l.yielded
