use Rattle.std.proofs.Common.{◌≡◌, ◌++◌, drop, Some}
use Rattle.list_types.specs.Options.{◌>>=◌}
use Rattle.wire_messages.specs.Message.{each}
use Rattle.p4v1_answers.specs.Failures.{error_in, errors_in}
use Rattle.p4v1_answers.proofs.failures.errors_of.Given as goal

abbrev pub invariant-loop-detail : goal.invariant-loop-detail
invariant-loop-detail l = (each error_in (drop l.detail-index l.status.details) >>= λ rest. Some (l.errors ++ rest)) ≡ errors_in l.status
