use Rattle.std.proofs.Common.{◌∙◌, ap, ℕ, List, Some, arith}
use Rattle.packet_out.proofs.Bytes.{header_is, written_back}
use Rattle.packet_out.proofs.header.header_of.Goals as goal

pub returns : goal.returns
returns c =
    ap (λ (xs : List ℕ). Some xs)
    (c.from_vec.ensures ∙ written_back c.in_ok-header.header.len c.write_fields.new.header _ (omega (arith, c.in_ok-header.header.ok.0, c.deref_mut.ensures.len, c.write_fields.auto.header)))
    ∙ header_is c.args.fields.now c.args.metadata.now c.write_fields.new.header c.if-not-write_fields.ensures.given c.if-not-write_fields.ensures.written
