-- Canonical bytes: there are some, they are the only ones, and none are shorter.
use Rattle.std.proofs.Common.{◌≡◌, ◌≢◌, ℕ, zero, suc, ◌+◌, ◌*◌, ◌/◌, ◌%◌, ◌<◌, ◌≤◌, List, [], ◌∷◌, ◌++◌, length, get_or, refl, sym, ap, ◌∙◌, append_assoc, append-nil, arith, inl, inr}
use Rattle.std.specs.Prelude.{All}
use Rattle.std.specs.Int.Digits.{number_from_digits_after, number_from_digits, digits_of, AllBelowBase}
use Rattle.std.proofs.lemmas.Bool.{ne_eqb}
use Rattle.std.proofs.lemmas.Int.Digits.{digits_of_step, all_below_base_digits_of, number_digits_of, first_digits_of, number_after_ge, number_lt, length-digits_of-le}
use Rattle.std.proofs.Math.Nat.{mod-eq_of_lt}
use Rattle.canon_bytes.specs.ByteString.{IsCanonical, canon}
use Rattle.canon_bytes.specs.Laws.{CanonIsAccepted, CanonIsCanonical, OneCanonical, CanonIsShortest}
use Rattle.canon_bytes.proofs.Numbers.{num-bits}

all_from_below : (bytes : List ℕ) → AllBelowBase 256 bytes → All (λ b. b < 256) bytes
all_from_below [] below k d lt = absurd (omega arith)
all_from_below (b ∷ bytes) below zero d lt = below.0
all_from_below (b ∷ bytes) below (suc k) d lt = all_from_below bytes below.1 k d (omega arith)

pub below_from_all : (bytes : List ℕ) → All (λ b. b < 256) bytes → AllBelowBase 256 bytes
below_from_all [] all = tt
below_from_all (b ∷ bytes) all = (all 0 0 (omega arith), below_from_all bytes (λ k d lt. all (suc k) d (omega arith)))

canon-zero : canon 0 ≡ 0 ∷ []
unfolding canon
canon-zero = refl

canon-pos : (value : ℕ) → 0 < value → canon value ≡ digits_of 256 value
unfolding canon
canon-pos value pos = rw (ne_eqb value 0 (λ e. omega arith)) refl

-- a number that is one byte
pub canon_small : (value : ℕ) → value < 256 → canon value ≡ value % 256 ∷ []
canon_small zero lt = canon-zero
canon_small (suc n) lt =
    let none : suc n / 256 ≡ 0 = omega arith in
    canon-pos (suc n) (omega arith) ∙ digits_of_step 256 (suc n) (omega arith) (omega arith) ∙ rw none refl

-- the bytes of a number that is more than one
pub canon_more : (value : ℕ) → 256 ≤ value → canon value ≡ canon (value / 256) ++ value % 256 ∷ []
canon_more value le =
    canon-pos value (omega arith) ∙ digits_of_step 256 value (omega arith) (omega arith)
    ∙ ap (λ x. x ++ value % 256 ∷ []) (sym (canon-pos (value / 256) (omega arith)))

-- ---- laws

is_canonical_pos : (value : ℕ) → 0 < value → IsCanonical (digits_of 256 value) value
is_canonical_pos value pos =
    let below = all_below_base_digits_of 256 value (omega arith) in
    record {
      are_bytes = all_from_below (digits_of 256 value) below;
      value_is = sym (num-bits (digits_of 256 value) below ∙ number_digits_of 256 value (omega arith));
      leading = inr (first_digits_of 256 value (omega arith) pos);
    }

zero_byte : IsCanonical (0 ∷ []) 0
zero_byte = record {
  are_bytes = all_from_below (0 ∷ []) (omega arith, tt);
  value_is = sym (num-bits (0 ∷ []) (omega arith, tt));
  leading = inl refl;
}

pub canon_is_canonical : CanonIsCanonical
canon_is_canonical zero = rw canon-zero zero_byte
canon_is_canonical (suc n) = rw (canon-pos (suc n) (omega arith)) (is_canonical_pos (suc n) (omega arith))

-- digits after a number that is not zero are its digits and these
digits_after : (n : ℕ) (ds : List ℕ) → 0 < n → AllBelowBase 256 ds → digits_of 256 (number_from_digits_after 256 n ds) ≡ digits_of 256 n ++ ds
digits_after n [] pos below = sym (append-nil _)
digits_after n (d ∷ ds) pos below =
    let row : (n * 256 + d) / 256 ≡ n = omega (arith, below.0) in
    let column : (n * 256 + d) % 256 ≡ d = omega (arith, below.0) in
    digits_after (n * 256 + d) ds (omega arith) below.1
    ∙ ap (λ x. x ++ ds) (digits_of_step 256 (n * 256 + d) (omega arith) (omega arith))
    ∙ rw (row, column) (append_assoc (digits_of 256 n) (d ∷ []) ds)

digits_again : (bytes : List ℕ) → AllBelowBase 256 bytes → 0 < get_or bytes 0 0 → digits_of 256 (number_from_digits 256 bytes) ≡ bytes
digits_again [] below pos = absurd (omega arith)
digits_again (b ∷ bytes) below pos =
    let first : 0 * 256 + b ≡ b = omega arith in
    let one : digits_of 256 b ≡ b ∷ [] =
    sym (canon-pos b pos) ∙ canon_small b below.0 ∙ ap (λ x. x ∷ []) (mod-eq_of_lt below.0) in
    rw first (digits_after b bytes pos below.1 ∙ rw one refl)

-- digits of which the first is not zero are no zero
positive : (bytes : List ℕ) → 0 < get_or bytes 0 0 → 0 < number_from_digits 256 bytes
positive [] pos = absurd (omega arith)
positive (b ∷ bytes) pos = omega (arith, number_after_ge 256 (0 * 256 + b) bytes (omega arith))

pub one_canonical : OneCanonical
one_canonical bytes value is =
    let below = below_from_all bytes is.are_bytes in
    let number : value ≡ number_from_digits 256 bytes = is.value_is ∙ num-bits bytes below in
    elim is.leading [
      | inl zero_is ↦
          let none : value ≡ 0 = number ∙ ap (number_from_digits 256) zero_is in
          zero_is ∙ sym (ap canon none ∙ canon-zero)
      | inr pos ↦
          let again = digits_again bytes below pos in
          let some : 0 < value = omega (arith, positive bytes pos) in
          sym (canon-pos value some ∙ ap (digits_of 256) number ∙ again)
    ]

not_empty : (bytes : List ℕ) (value : ℕ) → IsCanonical bytes value → bytes ≢ []
not_empty [] value is e = elim is.leading [ inl zero_is ↦ absurd cc | inr pos ↦ absurd (omega arith) ]
not_empty (b ∷ bytes) value is e = absurd cc

pub canon_is_accepted : CanonIsAccepted
canon_is_accepted value width lt =
    let is = canon_is_canonical value in
    record { not_empty = not_empty (canon value) value is; value_is = is.value_is; fits = lt }

one_byte : (bytes : List ℕ) → bytes ≢ [] → 1 ≤ length bytes
one_byte [] some = absurd (some refl)
one_byte (b ∷ bytes) some = omega arith

pub canon_is_shortest : CanonIsShortest
canon_is_shortest bytes width zero all is = rw canon-zero (one_byte bytes is.not_empty)
canon_is_shortest bytes width (suc n) all is =
    let below = below_from_all bytes all in
    let number : suc n ≡ number_from_digits 256 bytes = is.value_is ∙ num-bits bytes below in
    rw (canon-pos (suc n) (omega arith)) (length-digits_of-le 256 (length bytes) (suc n) (omega arith) (rw number (number_lt 256 bytes below)))
