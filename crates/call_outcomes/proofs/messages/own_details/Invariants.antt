use Rattle.std.proofs.Common.{◌≡◌, ◌++◌, drop, map}
use Rattle.switch_spec.specs.Answer.{own_error}
use Rattle.switch_spec.specs.Status.{detail_of}
use Rattle.call_outcomes.proofs.messages.own_details.Given as goal

abbrev pub invariant-loop-outcome : goal.invariant-loop-outcome
invariant-loop-outcome l = l.details ++ map detail_of (map own_error (drop l.outcome-index l.outcomes)) ≡ map detail_of (map own_error l.outcomes)
