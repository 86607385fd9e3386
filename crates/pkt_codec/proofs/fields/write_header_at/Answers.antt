use Rattle.std.proofs.Common.{◌+◌, ◌-◌, ◌/◌, ◌++◌, take, ap, ◌∙◌, arith}
use Rattle.std.proofs.lemmas.Slice.{take-put_mid}
use Rattle.canon_bytes.specs.Bits.{bits}
use Rattle.pkt_codec.proofs.Runs.{bits-append}
use Rattle.pkt_codec.proofs.fields.write_header_at.Goals as goal

pub returns : goal.returns
returns c =
    let xs = c.args.bytes.now in
    let ys = c.write_fields.new.bytes in
    let at = c.args.at in
    let size = c.args.header.now.bits / 8 in
    ap bits (take-put_mid at (at + size - at) xs ys (at + size) (omega arith) (omega arith))
    ∙ bits-append (take at xs) ys
    ∙ ap (λ zs. bits (take at xs) ++ zs) c.write_fields.ensures
