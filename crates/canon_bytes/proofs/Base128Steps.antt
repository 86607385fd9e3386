-- Digits of base 128, one by one.
use Rattle.std.proofs.Common.{◌≡◌, ℕ, zero, suc, ◌+◌, ◌/◌, ◌%◌, ◌^◌, ◌<◌, ◌≤◌, [], ◌∷◌, refl, ap, arith, inl, inr}
use Rattle.std.proofs.lemmas.Bool.{cases_lt, lt-ltb, le-ltb}
use Rattle.std.proofs.Math.Nat.{pow-suc}
use Rattle.canon_bytes.specs.Base128.{base_128}

pub one_byte : (k value : ℕ) → value < 128 → base_128 (suc k) value ≡ value ∷ []
unfolding base_128
one_byte k value lt = rw (lt-ltb value 128 lt) refl

pub more_bytes : (k value : ℕ) → 128 ≤ value → base_128 (suc k) value ≡ (value % 128 + 128) ∷ base_128 k (value / 128)
unfolding base_128
more_bytes k value le = rw (le-ltb value 128 le) refl

pub quotient_below : (k value : ℕ) → value < 128 ^ suc (suc k) → value / 128 < 128 ^ suc k
quotient_below k value lt = omega (arith, pow-suc 128 (suc k))

-- room for more bytes changes nothing
pub same_bytes : (k value : ℕ) → value < 128 ^ suc k → base_128 (suc k) value ≡ base_128 (suc (suc k)) value
same_bytes zero value lt = rw (one_byte 0 value (omega arith), one_byte 1 value (omega arith)) refl
same_bytes (suc k) value lt =
    elim (cases_lt value 128) [
      | inl below ↦ rw (one_byte (suc k) value below, one_byte (suc (suc k)) value below) refl
      | inr le ↦ rw (more_bytes (suc k) value le, more_bytes (suc (suc k)) value le) (ap (λ x. (value % 128 + 128) ∷ x) (same_bytes k (value / 128) (quotient_below k value lt)))
    ]
