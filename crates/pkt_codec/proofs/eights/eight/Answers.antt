use Rattle.std.proofs.Common.{◌*◌, ◌+◌, arith}
use Rattle.pkt_bits.proofs.Pieces.{field_more}
use Rattle.pkt_codec.proofs.eights.eight.Goals as goal

pub returns : goal.returns
returns c = omega (arith, c.four.ensures.number, c.four-2.ensures.number, field_more c.args.bytes.now (c.args.at * 8) 32 ((c.args.at + 4) * 8) 32 (omega arith) (omega arith))
