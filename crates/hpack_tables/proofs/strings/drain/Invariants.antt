use Rattle.hpack_tables.proofs.Draining.{IsDraining}
use Rattle.hpack_tables.proofs.strings.drain.Given as goal

abbrev pub invariant-loop-symbol : goal.invariant-loop-symbol
invariant-loop-symbol l = IsDraining l.fn.text l.fn.bits.count l.fn.bits.number l.text l.left.count l.left.number

abbrev pub decreases-loop-symbol : goal.decreases-loop-symbol
decreases-loop-symbol l = l.left.count
