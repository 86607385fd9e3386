use Rattle.std.proofs.Common.{◌≡◌, ◌+◌, ◌*◌, ◌/◌, take, ap, ◌∙◌, arith}
use Rattle.std.specs.List.{splice}
use Rattle.canon_bytes.specs.Bits.{bits}
use Rattle.pkt_bits.specs.Field.{number_bits}
use Rattle.pkt_bits.proofs.Low.{length-low}
use Rattle.pkt_bits.proofs.Pieces.{length-bits}
use Rattle.pkt_codec.proofs.LaidBits.{spliced}
use Rattle.pkt_codec.proofs.laying.write.Goals as goal

pub returns-then-laying-eq0-clause-written : goal.returns-then-laying-eq0-clause-written
returns-then-laying-eq0-clause-written c =
    let old = bits c.args.bytes.now in
    let at = c.args.laying.at in
    let word = c.args.laying.word in
    let here : at / 8 * 8 ≡ at = omega arith in
    let all : 64 ≡ c.args.laying.filled = omega arith in
    ap (take (at + c.args.laying.filled)) (
    c.put_eight.ensures.written
    ∙ ap (λ n. splice old n (n + 64) (number_bits 64 word)) here
    ∙ ap (λ n. splice old at (at + n) (number_bits n word)) all
    )
    ∙ spliced old (number_bits c.args.laying.filled word) at c.args.laying.filled (length-low c.args.laying.filled word) (omega (arith, length-bits c.args.bytes.now))
