use Rattle.std.proofs.Common.{◌≡◌, ◌^◌, ◌<◌, drop}
use Rattle.bm_values.specs.Literals.{hex_number}
use Rattle.bm_values.proofs.literals.hex_number.Given as goal

abbrev pub invariant-loop-byte : goal.invariant-loop-byte
invariant-loop-byte l = (hex_number l.number (drop l.byte-index l.digits) ≡ hex_number 0 l.digits) × (l.number < 16 ^ l.byte-index)
