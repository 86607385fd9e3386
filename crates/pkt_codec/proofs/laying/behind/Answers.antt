use Rattle.std.proofs.Common.{◌≡◌, ◌+◌, ◌*◌, ◌%◌, ◌^◌, ◌<◌, ap, ◌∙◌, arith, lit<}
use Rattle.std.proofs.lemmas.Nat.{mod_below, pow_pos}
use Rattle.std.proofs.Math.Facts.{Fits-of_lt}
use Rattle.std.proofs.Math.Nat.{pow-le-pow_right}
use Rattle.pkt_bits.specs.Field.{number_bits}
use Rattle.pkt_codec.proofs.LaidBits.{word_whole, word_fits, word_bits}
use Rattle.pkt_codec.proofs.laying.behind.Goals as goal

shifted : (c : goal.After-low) → c.args.laying.word * 2 ^ c.args.width % 2 ^ 64 + c.low.result ≡ c.args.laying.word * 2 ^ c.args.width + c.low.result
shifted c = ap (λ n. n + c.low.result) (word_whole c.args.laying.word c.args.laying.filled c.args.width c.requires.fits c.requires.room)

fits : (c : goal.After-low) → c.args.laying.word * 2 ^ c.args.width % 2 ^ 64 + c.low.result < 2 ^ (c.args.laying.filled + c.args.width)
fits c =
    let small : c.low.result < 2 ^ c.args.width = rw c.low.ensures (mod_below c.args.number (2 ^ c.args.width) (pow_pos c.args.width)) in
    rw (shifted c) (word_fits c.args.laying.word c.args.laying.filled c.args.width c.low.result c.requires.fits small)

pub overflow_add-result-2 : goal.overflow_add-result-2
overflow_add-result-2 c = Fits-of_lt (omega (arith, fits c, pow-le-pow_right {n = 2} (lit< tt) {i = c.args.laying.filled + c.args.width} {j = 64} c.requires.room))

pub returns-clause-fits : goal.returns-clause-fits
returns-clause-fits c = fits c

pub returns-clause-bits : goal.returns-clause-bits
returns-clause-bits c =
    ap (number_bits (c.args.laying.filled + c.args.width)) (shifted c)
    ∙ word_bits c.args.laying.word c.args.laying.filled c.args.width c.args.number c.low.result c.low.ensures
