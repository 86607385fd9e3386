use Rattle.std.proofs.Common.{arith}
use Rattle.pkt_codec.proofs.EightBytes.{byte_after}
use Rattle.pkt_codec.proofs.eights.byte_at.Goals as goal

pub returns-clause-more : goal.returns-clause-more
returns-clause-more c = λ bit a here. byte_after c.args.bytes.now c.args.at bit a c.from.result c.from.ensures (omega arith) c.requires.in_range here
