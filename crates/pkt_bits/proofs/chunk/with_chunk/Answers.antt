use Rattle.std.proofs.Common.{◌+◌, ◌*◌, ◌%◌, ◌-◌, ◌/◌, ◌^◌, ◌<◌, arith}
use Rattle.std.proofs.Math.Facts.{Fits-of_lt}
use Rattle.pkt_bits.proofs.Pieces.{made_byte, with_chunk_is}
use Rattle.pkt_bits.proofs.chunk.with_chunk.Goals as goal

pub overflow_cast-result : goal.overflow_cast-result
overflow_cast-result c =
    let off = c.args.offset in
    let n = c.args.width in
    let r = 8 - off - n in
    let old = c.args.byte in
    let fits : old / 2 ^ (8 - off) * 2 ^ (8 - off) + (c.args.value * 2 ^ r + old % 2 ^ r) < 256 =
    made_byte off n r (8 - off) c.args.value old (omega arith) (omega arith) c.requires.fits c.ranges.byte.fits in
    simp (c.from-old.ensures, c.from.ensures)
    (Fits-of_lt (rw (with_chunk_is old off n r (8 - off) c.args.value (omega arith) (omega arith) c.ranges.byte.fits c.requires.fits) fits))

pub returns : goal.returns
returns c =
    let off = c.args.offset in
    let n = c.args.width in
    simp (c.from-old.ensures, c.from.ensures) (with_chunk_is c.args.byte off n (8 - off - n) (8 - off) c.args.value (omega arith) (omega arith) c.ranges.byte.fits c.requires.fits)
