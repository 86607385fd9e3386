use Rattle.std.proofs.Common.{◌≡◌, take}
use Rattle.canon_bytes.specs.Bits.{bits, num}
use Rattle.canon_bytes.proofs.reading.read.Given as goal

abbrev pub invariant-loop-byte : goal.invariant-loop-byte
invariant-loop-byte l = l.value ≡ num (bits (take l.byte-index l.bytes))
