use Rattle.std.proofs.Common.{◌-◌}
use Rattle.hpack_tables.proofs.BitSteps.{NotYet}
use Rattle.hpack_tables.proofs.strings.first_symbol.Given as goal

abbrev pub invariant-loop-length : goal.invariant-loop-length
invariant-loop-length l = NotYet l.bits.count l.bits.number (l.length - 1) (l.bits.count - (l.length - 1))
