use Rattle.std.proofs.Common.{arith, ◌<◌}
use Rattle.bm_values.proofs.Hex.{fits_128}
use Rattle.bm_values.proofs.literals.hex_number.Goals as goal

pub overflow_mul-number : goal.overflow_mul-number
overflow_mul-number c = let small : c.in-Some.digit < 16 = c.in-Some.ensures.small in omega (arith, fits_128 c.loop-byte.number c.in-Some.digit c.loop-byte.byte-index c.loop-byte.invariant.1 (omega arith) small)

pub overflow_add-number : goal.overflow_add-number
overflow_add-number c = let small : c.in-Some.digit < 16 = c.in-Some.ensures.small in omega (arith, fits_128 c.loop-byte.number c.in-Some.digit c.loop-byte.byte-index c.loop-byte.invariant.1 (omega arith) small)
