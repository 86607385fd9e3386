use Rattle.std.proofs.Common.{◌≡◌}
use Rattle.thread_tests.proofs.stamps.touch.Given as goal

abbrev pub invariant-loop-number : goal.invariant-loop-number
invariant-loop-number l = (l.seat.stamps ≡ l.initial.seat.stamps) × (l.seat.parts ≡ l.initial.seat.parts)
