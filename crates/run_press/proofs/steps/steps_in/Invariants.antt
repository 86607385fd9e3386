use Rattle.std.proofs.Common.{◌≡◌, ◌++◌, drop}
use Rattle.run_press.specs.Kinds.{steps_in}
use Rattle.run_press.proofs.steps.steps_in.Given as goal

abbrev pub invariant-loop-kind : goal.invariant-loop-kind
invariant-loop-kind l = l.steps ++ steps_in (drop l.kind-index l.kinds) ≡ steps_in l.kinds
