-- What is known of bytes of which some, or all, are read.
use Rattle.std.proofs.Common.{◌≡◌, ℕ, ◌+◌, ◌-◌, ◌/◌, ◌^◌, ◌<◌, ◌≤◌, List, [], ◌∷◌, length, take, ap, ◌∙◌, arith}
use Rattle.std.proofs.lemmas.List.{take_all}
use Rattle.std.proofs.lemmas.Nat.{pow_pos}
use Rattle.std.proofs.lemmas.Nat.Bits.{ones_shr}
use Rattle.canon_bytes.specs.Bits.{bits, num}
use Rattle.canon_bytes.specs.ByteString.{IsAccepted}
use Rattle.canon_bytes.proofs.Numbers.{num_none, num_more, num-take-le}

-- the greatest number of so many bits
pub max_is : (width : ℕ) → width ≤ 128 → 340282366920938463463374607431768211455 / 2 ^ (128 - width) + 1 ≡ 2 ^ width
max_is width le =
    let shifted : (2 ^ 128 - 1) / 2 ^ (128 - width) ≡ 2 ^ (128 - (128 - width)) - 1 = ones_shr 128 (128 - width) (omega arith) in
    let back : 2 ^ (128 - (128 - width)) ≡ 2 ^ width = let e : 128 - (128 - width) ≡ width = omega arith in ap (λ x. 2 ^ x) e in
    omega (arith, shifted, back, pow_pos width)

-- no byte spells no number that is too wide
pub none_fits : (bytes : List ℕ) (width : ℕ) → length bytes ≡ 0 → 2 ^ width ≤ num (bits bytes) → ⊥
none_fits [] width none wide = omega (arith, num_none, pow_pos width)
none_fits (b ∷ bytes) width none wide = omega arith

-- a byte is left, and the number with it is too wide
pub is_too_wide : (bytes : List ℕ) (i width value : ℕ) → i < length bytes → width ≤ 128 → value ≡ num (bits (take i bytes))
    → 340282366920938463463374607431768211455 / 2 ^ (128 - width) / 256 < value → 2 ^ width ≤ num (bits bytes)
is_too_wide bytes i width value lt le so_far above =
    omega (arith, max_is width le, num_more bytes i lt, num-take-le bytes (i + 1))

-- all bytes are read
pub number_is : (bytes : List ℕ) (i value : ℕ) → length bytes ≤ i → value ≡ num (bits (take i bytes)) → value ≡ num (bits bytes)
number_is bytes i value le so_far = so_far ∙ ap (λ x. num (bits x)) (take_all i bytes le)

-- bytes that are too wide have no number
pub not_accepted : (bytes : List ℕ) (width value : ℕ) → 2 ^ width ≤ num (bits bytes) → IsAccepted bytes width value → ⊥
not_accepted bytes width value wide is = omega (arith, is.value_is, is.fits)

-- bytes that are not too wide have their number
pub is_accepted : (bytes : List ℕ) (width value : ℕ) → (length bytes ≡ 0 → ⊥) → value ≡ num (bits bytes) → value < 2 ^ width → IsAccepted bytes width value
is_accepted bytes width value some number_is fits = record { not_empty = λ e. some (ap length e); value_is = number_is; fits = fits }
