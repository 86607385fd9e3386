-- The low bits of a number, most significant first.
use Rattle.std.proofs.Common.{◌≡◌, ℕ, zero, suc, ◌+◌, ◌*◌, ◌/◌, ◌%◌, ◌^◌, ◌≤◌, List, [], ◌∷◌, ◌++◌, length, take, drop, refl, sym, ap, ◌∙◌, arith}
use Rattle.std.proofs.lemmas.Nat.{shr-shr, mod-pow-add}
use Rattle.std.proofs.lemmas.Nat.Bits.{bit_at_cat_low}
use Rattle.std.proofs.Math.Nat.{pow-suc}
use Rattle.std.specs.Int.{bit_at}
use Rattle.std.specs.Int.Digits.{number_from_digits_after, AllBelowBase}
use Rattle.canon_bytes.specs.Bits.{byte_bits}
use Rattle.pkt_bits.specs.Field.{number_bits as low}

pub byte_low : (b : ℕ) → byte_bits b ≡ low 8 b
byte_low b = refl

pub drop-low : (j k n b : ℕ) → j + k ≡ n → drop j (low n b) ≡ low k b
drop-low zero k n b e = let same : n ≡ k = omega arith in ap (λ x. low x b) same
drop-low (suc j) k zero b e = absurd (omega arith)
drop-low (suc j) k (suc n) b e = drop-low j k n b (omega arith)

pub take-low : (j k n b : ℕ) → j + k ≡ n → take j (low n b) ≡ low j (b / 2 ^ k)
take-low zero k n b e = refl
take-low (suc j) k zero b e = absurd (omega arith)
take-low (suc j) k (suc n) b e =
    let same : k + j ≡ n = omega arith in
    let one : bit_at b n ≡ bit_at (b / 2 ^ k) j = sym (ap (λ x. x % 2) (shr-shr b k j) ∙ ap (λ x. b / 2 ^ x % 2) same) in
    rw (one, take-low j k n b (omega arith)) refl

step : (v x p r : ℕ) → (v * 2 + x) * p + r ≡ v * (p * 2) + (x * p + r)
step v x p r = omega arith

pub number-low : (v k b : ℕ) → number_from_digits_after 2 v (low k b) ≡ v * 2 ^ k + b % 2 ^ k
number-low v zero b = omega arith
number-low v (suc k) b =
    let high : b % 2 ^ suc k ≡ bit_at b k * 2 ^ k + b % 2 ^ k = (let e : suc k ≡ 1 + k = omega arith in ap (λ x. b % 2 ^ x) e ∙ mod-pow-add b 1 k) in
    number-low (v * 2 + bit_at b k) k b ∙ step v (bit_at b k) (2 ^ k) (b % 2 ^ k)
    ∙ ap (λ x. v * x + (bit_at b k * 2 ^ k + b % 2 ^ k)) (sym (pow-suc 2 k)) ∙ ap (λ x. v * 2 ^ suc k + x) (sym high)

-- only the low bits count
pub low-cat : (k n a r : ℕ) → k ≤ n → low k (a * 2 ^ n + r) ≡ low k r
low-cat zero n a r le = refl
low-cat (suc k) n a r le = rw (bit_at_cat_low a n r k (omega arith), low-cat k n a r (omega arith)) refl

pub length-low : (k n : ℕ) → length (low k n) ≡ k
length-low zero n = refl
length-low (suc k) n = ap suc (length-low k n)

pub below-low : (k n : ℕ) → AllBelowBase 2 (low k n)
below-low zero n = tt
below-low (suc k) n = (omega arith, below-low k n)

-- ---- any bits

pub below-append : (xs ys : List ℕ) → AllBelowBase 2 xs → AllBelowBase 2 ys → AllBelowBase 2 (xs ++ ys)
below-append [] ys px py = py
below-append (x ∷ xs) ys px py = (px.0, below-append xs ys px.1 py)

pub below-drop : (k : ℕ) (xs : List ℕ) → AllBelowBase 2 xs → AllBelowBase 2 (drop k xs)
below-drop zero xs p = p
below-drop (suc k) [] p = tt
below-drop (suc k) (x ∷ xs) p = below-drop k xs p.1

pub below-take : (k : ℕ) (xs : List ℕ) → AllBelowBase 2 xs → AllBelowBase 2 (take k xs)
below-take zero xs p = tt
below-take (suc k) [] p = tt
below-take (suc k) (x ∷ xs) p = (p.0, below-take k xs p.1)

-- a number, and bits behind it
pub number_behind : (v : ℕ) (xs : List ℕ) → number_from_digits_after 2 v xs ≡ v * 2 ^ length xs + number_from_digits_after 2 0 xs
number_behind v [] = omega arith
number_behind v (x ∷ xs) =
    let p = 2 ^ length xs in
    let n = number_from_digits_after 2 0 xs in
    let alone : (0 * 2 + x) * p + n ≡ 0 * (p * 2) + (x * p + n) = step 0 x p n in
    number_behind (v * 2 + x) xs ∙ step v x p n
    ∙ ap (λ y. v * y + (x * p + n)) (sym (pow-suc 2 (length xs)))
    ∙ ap (λ y. v * 2 ^ suc (length xs) + y) (sym (number_behind (0 * 2 + x) xs ∙ alone ∙ omega arith))
