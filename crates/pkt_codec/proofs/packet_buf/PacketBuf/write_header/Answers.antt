use Rattle.std.proofs.Common.{length, ap, arith}
use Rattle.std.proofs.lemmas.List.{length-take-le}
use Rattle.pkt_bits.proofs.Pieces.{length-bits}
use Rattle.program_spec.specs.Deparsing.{numbers_of}
use Rattle.pkt_codec.proofs.Runs.{length-laid, numbers_long}
use Rattle.pkt_codec.proofs.packet_buf.PacketBuf.write_header.Goals as goal

pub returns-then-size-self-clause-too_long : goal.returns-then-size-self-clause-too_long
returns-then-size-self-clause-too_long c =
    let header = c.args.header.now in
    let store = c.args.store.now in
    omega (
      arith,
      length-bits c.args.self.now,
      ap length c.self.view_is,
      length-take-le c.self.inside.used c.self.inside.bytes.items (omega (arith, c.self.invariant.0, c.self.invariant.1)),
      length-laid header.widths (numbers_of header store) (omega (arith, numbers_long store.fields header.place.first header.place.count c.requires.fields_in_store)),
    )
