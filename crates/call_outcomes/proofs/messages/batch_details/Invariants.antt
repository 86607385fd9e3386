use Rattle.std.proofs.Common.{◌≡◌, ◌++◌, drop, map, cond}
use Rattle.switch_spec.specs.Answer.{batch_errors}
use Rattle.switch_spec.specs.Status.{detail_of, aborted_error}
use Rattle.call_outcomes.proofs.messages.batch_details.Given as goal

abbrev pub invariant-loop-outcome : goal.invariant-loop-outcome
invariant-loop-outcome l =
    let rest = drop l.outcome-index l.outcomes in
    l.details ++ map detail_of (cond l.failed (map (λ other. aborted_error) rest) (batch_errors rest)) ≡ map detail_of (batch_errors l.outcomes)
