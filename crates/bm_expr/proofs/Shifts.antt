-- Shifts by 128 and more, and masks.
use Rattle.std.proofs.Common.{◌≡◌, ℕ, ◌+◌, ◌-◌, ◌*◌, ◌/◌, ◌%◌, ◌^◌, ◌<◌, ◌≤◌, sym, ap, ◌∙◌, arith, lit<}
use Rattle.std.proofs.lemmas.Nat.{pow-add, one_shl, and_mask, pow_pos}
use Rattle.std.proofs.Math.Nat.{mul_assoc, div-eq_of_lt, pow-le-pow_right, mul-mod_left, mod-lt}
use Rattle.std.specs.Int.Bits.{bit_and}

pub masked : (value width : ℕ) → width < 128 → bit_and value (1 * 2 ^ width % 340282366920938463463374607431768211456 - 1) ≡ value % 2 ^ width
masked value width lt = ap (λ x. bit_and value (x - 1)) (one_shl width 128 lt) ∙ and_mask value width

pub left_out : (value amount : ℕ) → 128 ≤ amount → 0 ≡ (value * 2 ^ amount) % 2 ^ 128
left_out value amount le =
    let whole : 2 ^ amount ≡ 2 ^ (amount - 128) * 2 ^ 128 = (let e : amount - 128 + 128 ≡ amount = omega arith in ap (λ x. 2 ^ x) (sym e)) ∙ pow-add 2 (amount - 128) 128 in
    sym (ap (λ x. value * x % 2 ^ 128) whole ∙ ap (λ x. x % 2 ^ 128) (sym (mul_assoc value (2 ^ (amount - 128)) (2 ^ 128))) ∙ mul-mod_left (value * 2 ^ (amount - 128)) (2 ^ 128))

pub right_out : (value amount : ℕ) → 128 ≤ amount → value < 2 ^ 128 → 0 ≡ value / 2 ^ amount
right_out value amount le lt =
    let big : 2 ^ 128 ≤ 2 ^ amount = pow-le-pow_right {n = 2} (lit< tt) {i = 128} {j = amount} le in
    sym (div-eq_of_lt (omega arith))

-- a number of `width` bits
pub cut_fits : (value width : ℕ) → value % 2 ^ width < 2 ^ width
cut_fits value width = mod-lt value (pow_pos width)
