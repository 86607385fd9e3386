use Rattle.std.proofs.Common.{◌*◌, arith}
use Rattle.pkt_bits.proofs.Pieces.{field_none}
use Rattle.pkt_codec.proofs.eights.four.Goals as goal

pub returns-clause-number : goal.returns-clause-number
returns-clause-number c =
    let bytes = c.args.bytes.now in
    let bit = c.args.at * 8 in
    omega (
      arith,
      field_none bytes bit,
      c.byte_at.ensures.more bit 0 (omega arith),
      c.byte_at-2.ensures.more bit 8 (omega arith),
      c.byte_at-3.ensures.more bit 16 (omega arith),
      c.byte_at-4.ensures.more bit 24 (omega arith),
    )
