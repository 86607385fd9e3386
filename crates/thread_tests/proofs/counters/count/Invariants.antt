use Rattle.std.proofs.Common.{◌≡◌}
use Rattle.thread_tests.proofs.counters.count.Given as goal

abbrev pub invariant-loop-number : goal.invariant-loop-number
invariant-loop-number l = (l.seat.bank ≡ l.initial.seat.bank) × (l.seat.parts ≡ l.initial.seat.parts)
