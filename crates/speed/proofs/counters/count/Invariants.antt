use Rattle.std.proofs.Common.{◌≡◌}
use Rattle.speed.proofs.counters.count.Given as goal

abbrev pub invariant-loop : goal.invariant-loop
invariant-loop l = (l.seat.bank ≡ l.initial.seat.bank) × (l.seat.parts ≡ l.initial.seat.parts)
