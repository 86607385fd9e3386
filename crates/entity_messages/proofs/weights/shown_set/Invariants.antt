use Rattle.std.proofs.Common.{◌≡◌, ◌++◌, drop, map}
use Rattle.plane_spec.specs.Shown.{shown_weighted}
use Rattle.entity_messages.proofs.weights.shown_set.Given as goal

abbrev pub invariant-loop-call : goal.invariant-loop-call
invariant-loop-call l = l.shown ++ map (shown_weighted l.info) (drop l.call-index l.calls) ≡ map (shown_weighted l.info) l.calls
