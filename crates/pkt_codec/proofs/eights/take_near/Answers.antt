use Rattle.std.proofs.Common.{◌*◌, ◌-◌, ◌^◌, ◌/◌, ◌%◌, ap, ◌∙◌, arith}
use Rattle.pkt_codec.proofs.EightBytes.{in_eight}
use Rattle.pkt_codec.proofs.eights.take_near.Goals as goal

pub returns : goal.returns
returns c =
    let start = c.min-start.result in
    let offset = c.args.bit - start * 8 in
    let width = c.args.width in
    c.from.ensures ∙ c.within.ensures ∙ ap (λ n. n / 2 ^ (64 - offset - width) % 2 ^ width) c.eight.ensures
    ∙ in_eight c.args.bytes.now c.args.bit start offset width (omega (arith, c.min-start.ensures)) (omega arith) (omega (arith, c.min-start.ensures))
