use Rattle.std.proofs.Common.{arith}
use Rattle.pkt_bits.proofs.Pieces.{part_is}
use Rattle.pkt_bits.proofs.fields.low_bits.Goals as goal

pub returns-clause-number : goal.returns-clause-number
returns-clause-number c = part_is c.args.value c.args.width 128 (omega arith)
