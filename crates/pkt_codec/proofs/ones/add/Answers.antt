use Rattle.std.proofs.Common.{◌≡◌, ℕ, ◌+◌, ◌-◌, ◌*◌, ◌/◌, ◌%◌, ◌^◌, ◌<◌, ◌≤◌, sym, ap, subst, ◌∙◌, arith}
use Rattle.std.proofs.lemmas.Nat.{mod_below, pow_pos}
use Rattle.std.proofs.Math.Nat.{mod-eq_of_lt}
use Rattle.std.specs.Int.Bits.{bit_and}
use Rattle.pkt_bits.specs.Field.{number_bits}
use Rattle.pkt_bits.proofs.Pieces.{part_is}
use Rattle.program_spec.specs.Checksums.{ones_sum}
use Rattle.pkt_codec.specs.Sums.{weighed, IsOnesSum}
use Rattle.pkt_codec.proofs.Weights.{part_added, part_word}
use Rattle.pkt_codec.proofs.ones.add.Goals as goal

-- the part of a number that a turn adds
abbrev part : ℕ → ℕ → ℕ → ℕ
part number left size = bit_and (number / 2 ^ (left - size)) (1 * 2 ^ size % 340282366920938463463374607431768211456 - 1)

is_part : (number left size : ℕ) → size ≤ 16 → part number left size ≡ number / 2 ^ (left - size) % 2 ^ size
is_part number left size le = part_is (number / 2 ^ (left - size)) size 128 (omega arith)

is_word : (number left size at : ℕ) → at + size ≤ 16 → part number left size * 2 ^ (16 - at - size) < 2 ^ 16
is_word number left size at within =
    let P : ℕ → Type 0 = λ n. n < 2 ^ size in
    part_word (part number left size) size at (subst P (sym (is_part number left size (omega arith))) (mod_below (number / 2 ^ (left - size)) (2 ^ size) (pow_pos size))) within

whole : (number left size at : ℕ) → at + size ≤ 16 → part number left size * 2 ^ (16 - at - size) % 4294967296 ≡ part number left size * 2 ^ (16 - at - size)
whole number left size at within = mod-eq_of_lt (omega (arith, is_word number left size at within))

pub ones_sum-total-requires-clause-other : goal.ones_sum-total-requires-clause-other
ones_sum-total-requires-clause-other c =
    let within : c.loop-left.at + c.min-size.result ≤ 16 = omega (arith, c.min-size.ensures, c.loop-left.invariant.at) in
    let P : ℕ → Type 0 = λ n. n < 2 ^ 16 in
    subst P (sym (whole c.args.number c.loop-left.left c.min-size.result c.loop-left.at within)) (is_word c.args.number c.loop-left.left c.min-size.result c.loop-left.at within)

pub loop-left-preserved : goal.loop-left-preserved
loop-left-preserved c =
    let l = c.loop-left in
    let size = c.min-size.result in
    let within : l.at + size ≤ 16 = omega (arith, c.min-size.ensures, l.invariant.at) in
    let next = part c.args.number l.left size * 2 ^ (16 - l.at - size) in
    let total : c.ones_sum-total.result ≡ ones_sum l.total next = c.ones_sum-total.ensures ∙ ap (ones_sum l.total) (whole c.args.number l.left size l.at within) in
    let word = is_word c.args.number l.left size l.at within in
    record {
      few = omega arith;
      at = omega (arith, c.min-size.ensures, l.invariant.at);
      word = omega (arith, total, l.invariant.word, word);
      so_far = λ before is.
          let P : ℕ → Type 0 = λ n. IsOnesSum n (before + weighed c.args.offset (number_bits (c.args.width - (l.left - size)) (c.args.number / 2 ^ (l.left - size)))) in
          subst P (sym total) (
          part_added c.args.offset c.args.width l.left size l.at c.args.number (part c.args.number l.left size) c.args.sum before l.total
          (omega (arith, c.min-size.ensures)) l.invariant.few l.invariant.at within (is_part c.args.number l.left size (omega arith)) (l.invariant.so_far before) word is
          );
    }

pub returns-clause-added : goal.returns-clause-added
returns-clause-added c = λ before is.
    let none : c.loop-left.left ≡ 0 = omega arith in
    let wide : c.args.width - 0 ≡ c.args.width = omega arith in
    let all : c.args.number / 2 ^ 0 ≡ c.args.number = omega arith in
    let same : weighed c.args.offset (number_bits (c.args.width - c.loop-left.left) (c.args.number / 2 ^ c.loop-left.left)) ≡ weighed c.args.offset (number_bits c.args.width c.args.number) =
    ap (λ n. weighed c.args.offset (number_bits (c.args.width - n) (c.args.number / 2 ^ n))) none
    ∙ ap (λ w. weighed c.args.offset (number_bits w (c.args.number / 2 ^ 0))) wide
    ∙ ap (λ n. weighed c.args.offset (number_bits c.args.width n)) all in
    let P : ℕ → Type 0 = λ n. IsOnesSum c.loop-left.total (before + n) in
    subst P same (c.loop-left.invariant.so_far before is)
