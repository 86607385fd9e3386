use Rattle.std.proofs.Common.{◌-◌, arith}
use Rattle.pkt_bits.proofs.Pieces.{chunk_is}
use Rattle.pkt_bits.proofs.chunk.chunk.Goals as goal

pub returns : goal.returns
returns c = simp c.from.ensures (chunk_is c.args.byte c.args.width (8 - c.args.offset - c.args.width) (omega arith))
