use Rattle.std.proofs.Common.{◌≡◌, ◌++◌, drop, map}
use Rattle.switch_spec.specs.History.{step_of}
use Rattle.run_press.proofs.steps.kinds_of.Given as goal

abbrev pub invariant-loop-event : goal.invariant-loop-event
invariant-loop-event l = l.kinds.items ++ map step_of (drop l.event-index l.events) ≡ map step_of l.events
