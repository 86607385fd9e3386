use Rattle.std.proofs.Common.{length}
use Rattle.hpack_tables.specs.Integers.{integer_from}
use Rattle.hpack_tables.proofs.IntegerSteps.{IsPart}
use Rattle.hpack_tables.proofs.integer.integer_from.Given as goal

abbrev pub invariant-loop-byte : goal.invariant-loop-byte
invariant-loop-byte l = IsPart l.fault l.value l.unit l.rest (integer_from l.fault l.fn.prefix 1 l.bytes)

abbrev pub decreases-loop-byte : goal.decreases-loop-byte
decreases-loop-byte l = length l.rest
