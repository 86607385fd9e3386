use Rattle.std.proofs.Common.{◌≡◌, ◌+◌, ◌-◌, ◌%◌, ◌^◌, ap, ◌∙◌, arith}
use Rattle.std.proofs.Math.Pow.{mod-mod-pow}
use Rattle.std.proofs.lemmas.Nat.{and_mask}
use Rattle.std.specs.Int.Bits.{bit_and}
use Rattle.pkt_bits.proofs.Pieces.{part_is}
use Rattle.pkt_codec.proofs.laying.low.Goals as goal

pub returns : goal.returns
returns c =
    let number = c.args.number in
    let width = c.args.width in
    let whole : 64 ≡ (64 - width) + width = omega arith in
    part_is (bit_and number 18446744073709551615) width 64 (omega arith)
    ∙ ap (λ n. n % 2 ^ width) (and_mask number 64 ∙ ap (λ k. number % 2 ^ k) whole)
    ∙ mod-mod-pow number (64 - width) width
