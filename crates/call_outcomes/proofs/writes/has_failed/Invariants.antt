use Rattle.std.proofs.Common.{◌≡◌, drop}
use Rattle.switch_spec.specs.Answer.{has_failed}
use Rattle.call_outcomes.proofs.writes.has_failed.Given as goal

abbrev pub invariant-loop-outcome : goal.invariant-loop-outcome
invariant-loop-outcome l = has_failed (drop l.outcome-index l.outcomes) ≡ has_failed l.outcomes
