-- The lowest 128 bits of a sum, a product and the like come from those of the operands.
use Rattle.std.proofs.Common.{◌≡◌, ℕ, zero, suc, ◌+◌, ◌-◌, ◌*◌, ◌%◌, ◌^◌, ◌<◌, ◌≤◌, refl, sym, ap, ◌∙◌, arith}
use Rattle.std.proofs.lemmas.Nat.{mul-mod, and_mod, or_mod, xor_mod, and-not, and_comm, and_le_l, and_le_r, or_lt, xor_lt, xor_comm}
use Rattle.std.proofs.Math.Nat.{mul_comm}
use Rattle.std.proofs.lemmas.Nat.Bits.{same_from_bits_below, bit_at_and, bit_at_or, bit_at_xor, bit_at_not, bit_at-lt}
use Rattle.std.specs.Prelude.{ℤ, pos, negsuc, ◌+ℤ◌, ◌-ℤ◌, ◌*ℤ◌, neg_ℤ, bit_and, bit_or, bit_xor}
use Rattle.std.specs.Int.{w128}
use Rattle.std.proofs.Math.IntN.{sub_ℕ}
use Rattle.bm_expr.specs.Whole.{lowest, int_not, int_and, int_or, int_xor}

pub lowest-lt : (z : ℤ) → lowest z < 2 ^ 128
lowest-lt (pos n) = omega arith
lowest-lt (negsuc n) = omega arith

lowest-sub : (a b : ℕ) → lowest (sub_ℕ a (suc b)) ≡ (a % 2 ^ 128 + (2 ^ 128 - 1 - b % 2 ^ 128)) % 2 ^ 128
lowest-sub a b = grind arith

pub lowest-add : (x y : ℤ) → lowest (x +ℤ y) ≡ (lowest x + lowest y) % 2 ^ 128
lowest-add (pos a) (pos b) = omega arith
lowest-add (pos a) (negsuc b) = lowest-sub a b
lowest-add (negsuc a) (pos b) = lowest-sub b a ∙ omega arith
lowest-add (negsuc a) (negsuc b) = omega arith

pub lowest-neg : (y : ℤ) → lowest (neg_ℤ y) ≡ (2 ^ 128 - lowest y) % 2 ^ 128
lowest-neg (pos zero) = omega arith
lowest-neg (pos (suc n)) = omega arith
lowest-neg (negsuc n) = omega arith

pub lowest-subtract : (x y : ℤ) → lowest (x -ℤ y) ≡ (lowest x + 2 ^ 128 - lowest y) % 2 ^ 128
lowest-subtract x y = lowest-add x (neg_ℤ y) ∙ ap (λ n. (lowest x + n) % 2 ^ 128) (lowest-neg y) ∙ omega (arith, lowest-lt y)

spread : (x u v : ℕ) → x * v + x * u ≡ x * (v + u)
spread x u v = omega arith

-- a product with what is missing to 2^128
times_missing : (x u : ℕ) → u ≤ 2 ^ 128 → x * (2 ^ 128 - u) % 2 ^ 128 ≡ (2 ^ 128 - x * u % 2 ^ 128) % 2 ^ 128
times_missing x u le =
    let whole : x * (2 ^ 128 - u) + x * u ≡ x * 2 ^ 128 = spread x u (2 ^ 128 - u) ∙ (let e : 2 ^ 128 - u + u ≡ 2 ^ 128 = omega arith in ap (λ n. x * n) e) in
    omega (arith, whole)

times_next : (a b : ℕ) → a * suc b % 2 ^ 128 ≡ a % 2 ^ 128 * (1 + b % 2 ^ 128) % 2 ^ 128
times_next a b =
    let once : a % 2 ^ 128 % 2 ^ 128 ≡ a % 2 ^ 128 = omega arith in
    let next : (1 + b % 2 ^ 128) % 2 ^ 128 ≡ suc b % 2 ^ 128 = omega arith in
    mul-mod a (suc b) (2 ^ 128)
    ∙ sym (mul-mod (a % 2 ^ 128) (1 + b % 2 ^ 128) (2 ^ 128) ∙ ap (λ n. n * ((1 + b % 2 ^ 128) % 2 ^ 128) % 2 ^ 128) once ∙ ap (λ n. a % 2 ^ 128 * n % 2 ^ 128) next)

times_negative : (a b : ℕ) → lowest (pos a *ℤ negsuc b) ≡ (lowest (pos a) * lowest (negsuc b)) % 2 ^ 128
times_negative a b =
    let low = a % 2 ^ 128 in
    let missing : 2 ^ 128 - (1 + b % 2 ^ 128) ≡ 2 ^ 128 - 1 - b % 2 ^ 128 = omega arith in
    lowest-neg (pos (a * suc b)) ∙ ap (λ n. (2 ^ 128 - n) % 2 ^ 128) (times_next a b)
    ∙ sym (times_missing low (1 + b % 2 ^ 128) (omega arith)) ∙ ap (λ n. low * n % 2 ^ 128) missing

both_negative : (u v : ℕ) → u ≤ 2 ^ 128 → v ≤ 2 ^ 128 → (2 ^ 128 - u) * (2 ^ 128 - v) % 2 ^ 128 ≡ u * v % 2 ^ 128
both_negative u v lu lv =
    let one = times_missing (2 ^ 128 - u) v lv in
    let two : (2 ^ 128 - u) * v % 2 ^ 128 ≡ (2 ^ 128 - v * u % 2 ^ 128) % 2 ^ 128 = ap (λ n. n % 2 ^ 128) (mul_comm (2 ^ 128 - u) v) ∙ times_missing v u lu in
    one ∙ ap (λ n. (2 ^ 128 - n) % 2 ^ 128) two ∙ twice (v * u) ∙ ap (λ n. n % 2 ^ 128) (mul_comm v u)
  where
    twice : (n : ℕ) → (2 ^ 128 - (2 ^ 128 - n % 2 ^ 128) % 2 ^ 128) % 2 ^ 128 ≡ n % 2 ^ 128
    twice n = omega arith

pub lowest-times : (x y : ℤ) → lowest (x *ℤ y) ≡ (lowest x * lowest y) % 2 ^ 128
lowest-times (pos a) (pos b) = mul-mod a b (2 ^ 128)
lowest-times (pos a) (negsuc b) = times_negative a b
lowest-times (negsuc a) (pos b) =
    ap (λ n. lowest (neg_ℤ (pos n))) (mul_comm (suc a) b) ∙ times_negative b a ∙ ap (λ n. n % 2 ^ 128) (mul_comm (lowest (pos b)) (lowest (negsuc a)))
lowest-times (negsuc a) (negsuc b) =
    let u = 1 + a % 2 ^ 128 in
    let v = 1 + b % 2 ^ 128 in
    let next : suc a % 2 ^ 128 ≡ u % 2 ^ 128 = omega arith in
    let once : u % 2 ^ 128 % 2 ^ 128 ≡ u % 2 ^ 128 = omega arith in
    let mu : 2 ^ 128 - u ≡ 2 ^ 128 - 1 - a % 2 ^ 128 = omega arith in
    let mv : 2 ^ 128 - v ≡ 2 ^ 128 - 1 - b % 2 ^ 128 = omega arith in
    mul-mod (suc a) (suc b) (2 ^ 128)
    ∙ ap (λ n. n * (suc b % 2 ^ 128) % 2 ^ 128) next ∙ ap (λ n. u % 2 ^ 128 * n % 2 ^ 128) (let e : suc b % 2 ^ 128 ≡ v % 2 ^ 128 = omega arith in e)
    ∙ sym (mul-mod u v (2 ^ 128)) ∙ sym (both_negative u v (omega arith) (omega arith))
    ∙ ap (λ n. n * (2 ^ 128 - v) % 2 ^ 128) mu ∙ ap (λ n. (2 ^ 128 - 1 - a % 2 ^ 128) * n % 2 ^ 128) mv

-- ---- bits

nor_is : (x y : ℕ) → x < 2 ^ 128 → y < 2 ^ 128 → 2 ^ 128 - 1 - bit_or x y ≡ bit_and (2 ^ 128 - 1 - x) (2 ^ 128 - 1 - y)
nor_is x y lx ly =
    let or_fits : bit_or x y < 2 ^ 128 = or_lt 128 x y lx ly in
    same_from_bits_below 128 (2 ^ 128 - 1 - bit_or x y) (bit_and (2 ^ 128 - 1 - x) (2 ^ 128 - 1 - y)) (omega arith)
    (omega (arith, and_le_l (2 ^ 128 - 1 - x) (2 ^ 128 - 1 - y)))
    (λ i lt. omega (
      arith,
      bit_at_not w128 (bit_or x y) i or_fits lt,
      bit_at_or x y i,
      bit_at_and (2 ^ 128 - 1 - x) (2 ^ 128 - 1 - y) i,
      bit_at_not w128 x i lx lt,
      bit_at_not w128 y i ly lt,
      bit_at-lt x i,
      bit_at-lt y i,
    ))

xor_not : (x y : ℕ) → x < 2 ^ 128 → y < 2 ^ 128 → 2 ^ 128 - 1 - bit_xor x y ≡ bit_xor x (2 ^ 128 - 1 - y)
xor_not x y lx ly =
    let fits : bit_xor x y < 2 ^ 128 = xor_lt 128 x y lx ly in
    same_from_bits_below 128 (2 ^ 128 - 1 - bit_xor x y) (bit_xor x (2 ^ 128 - 1 - y)) (omega arith)
    (xor_lt 128 x (2 ^ 128 - 1 - y) lx (omega arith))
    (λ i lt. omega (
      arith,
      bit_at_not w128 (bit_xor x y) i fits lt,
      bit_at_xor x y i,
      bit_at_xor x (2 ^ 128 - 1 - y) i,
      bit_at_not w128 y i ly lt,
      bit_at-lt x i,
      bit_at-lt y i,
    ))

pub lowest-not : (x : ℤ) → lowest (int_not x) ≡ 2 ^ 128 - 1 - lowest x
lowest-not (pos n) = refl
lowest-not (negsuc n) = omega arith

-- the bits of `a` that `b` has not
and_not_is : (a b : ℕ) → (a - bit_and a b) % 2 ^ 128 ≡ bit_and (a % 2 ^ 128) (2 ^ 128 - 1 - b % 2 ^ 128)
and_not_is a b =
    let kept = and-not 128 (b % 2 ^ 128) (a % 2 ^ 128) (omega arith) (omega arith) in
    omega (
      arith,
      kept,
      and_comm (2 ^ 128 - 1 - b % 2 ^ 128) (a % 2 ^ 128),
      and_comm (b % 2 ^ 128) (a % 2 ^ 128),
      and_mod a b 128,
      and_le_l a b,
      and_le_l (a % 2 ^ 128) (b % 2 ^ 128),
    )

pub lowest-and : (x y : ℤ) → lowest (int_and x y) ≡ bit_and (lowest x) (lowest y)
lowest-and (pos a) (pos b) = and_mod a b 128
lowest-and (pos a) (negsuc b) = and_not_is a b
lowest-and (negsuc a) (pos b) = and_not_is b a ∙ and_comm (b % 2 ^ 128) (2 ^ 128 - 1 - a % 2 ^ 128)
lowest-and (negsuc a) (negsuc b) =
    ap (λ n. 2 ^ 128 - 1 - n) (or_mod a b 128) ∙ nor_is (a % 2 ^ 128) (b % 2 ^ 128) (omega arith) (omega arith)

pub lowest-or : (x y : ℤ) → lowest (int_or x y) ≡ bit_or (lowest x) (lowest y)
lowest-or x y =
    let fits : bit_or (lowest x) (lowest y) < 2 ^ 128 = or_lt 128 (lowest x) (lowest y) (lowest-lt x) (lowest-lt y) in
    lowest-not (int_and (int_not x) (int_not y))
    ∙ ap (λ n. 2 ^ 128 - 1 - n) (lowest-and (int_not x) (int_not y) ∙ ap (λ n. bit_and n (lowest (int_not y))) (lowest-not x)
    ∙ ap (λ n. bit_and (2 ^ 128 - 1 - lowest x) n) (lowest-not y) ∙ sym (nor_is (lowest x) (lowest y) (lowest-lt x) (lowest-lt y)))
    ∙ omega arith

pub lowest-xor : (x y : ℤ) → lowest (int_xor x y) ≡ bit_xor (lowest x) (lowest y)
lowest-xor (pos a) (pos b) = xor_mod a b 128
lowest-xor (pos a) (negsuc b) = ap (λ n. 2 ^ 128 - 1 - n) (xor_mod a b 128) ∙ xor_not (a % 2 ^ 128) (b % 2 ^ 128) (omega arith) (omega arith)
lowest-xor (negsuc a) (pos b) =
    ap (λ n. 2 ^ 128 - 1 - n % 2 ^ 128) (xor_comm a b) ∙ ap (λ n. 2 ^ 128 - 1 - n) (xor_mod b a 128)
    ∙ xor_not (b % 2 ^ 128) (a % 2 ^ 128) (omega arith) (omega arith) ∙ xor_comm (b % 2 ^ 128) (2 ^ 128 - 1 - a % 2 ^ 128)
lowest-xor (negsuc a) (negsuc b) =
    let la : a % 2 ^ 128 < 2 ^ 128 = omega arith in
    let lb : b % 2 ^ 128 < 2 ^ 128 = omega arith in
    let turned : bit_xor (2 ^ 128 - 1 - a % 2 ^ 128) (b % 2 ^ 128) ≡ 2 ^ 128 - 1 - bit_xor (a % 2 ^ 128) (b % 2 ^ 128) =
    xor_comm (2 ^ 128 - 1 - a % 2 ^ 128) (b % 2 ^ 128) ∙ sym (xor_not (b % 2 ^ 128) (a % 2 ^ 128) lb la) ∙ ap (λ n. 2 ^ 128 - 1 - n) (xor_comm (b % 2 ^ 128) (a % 2 ^ 128)) in
    let fits : bit_xor (a % 2 ^ 128) (b % 2 ^ 128) < 2 ^ 128 = xor_lt 128 (a % 2 ^ 128) (b % 2 ^ 128) la lb in
    xor_mod a b 128 ∙ sym (sym (xor_not (2 ^ 128 - 1 - a % 2 ^ 128) (b % 2 ^ 128) (omega arith) lb) ∙ ap (λ n. 2 ^ 128 - 1 - n) turned ∙ omega arith)

-- `&` of any integer with a number of 128 bits
pub and_word : (x : ℤ) (n : ℕ) → n < 2 ^ 128 → int_and x (pos n) ≡ pos (bit_and (lowest x) n)
and_word (pos a) n lt =
    let small : bit_and a n < 2 ^ 128 = omega (arith, and_le_r a n) in
    let same : bit_and a n % 2 ^ 128 ≡ bit_and a n = omega arith in
    let whole : n % 2 ^ 128 ≡ n = omega arith in
    ap (λ m. pos m) (sym same ∙ and_mod a n 128 ∙ ap (bit_and (a % 2 ^ 128)) whole)
and_word (negsuc a) n lt =
    let whole : n % 2 ^ 128 ≡ n = omega arith in
    let same : (n - bit_and n a) % 2 ^ 128 ≡ n - bit_and n a = omega arith in
    ap (λ m. pos m) (sym same ∙ and_not_is n a ∙ and_comm (n % 2 ^ 128) (2 ^ 128 - 1 - a % 2 ^ 128) ∙ ap (bit_and (2 ^ 128 - 1 - a % 2 ^ 128)) whole)

-- the same, the other way round
pub word_and : (x : ℤ) (n : ℕ) → n < 2 ^ 128 → int_and (pos n) x ≡ pos (bit_and n (lowest x))
word_and (pos a) n lt = ap (λ m. pos m) (and_comm n a) ∙ and_word (pos a) n lt ∙ ap (λ m. pos m) (and_comm (a % 2 ^ 128) n)
word_and (negsuc a) n lt = and_word (negsuc a) n lt ∙ ap (λ m. pos m) (and_comm (2 ^ 128 - 1 - a % 2 ^ 128) n)
