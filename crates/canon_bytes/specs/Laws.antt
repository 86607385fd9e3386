-- Laws of byte strings.
use Rattle.std.specs.Prelude.{◌≡◌, ℕ, ◌^◌, ◌<◌, ◌≤◌, List, [], ◌∷◌, length, All}
use Rattle.canon_bytes.specs.Bits.{bits, num}
use Rattle.canon_bytes.specs.ByteString.{IsAccepted, IsCanonical, canon}

-- Canonical bytes are accepted for each width in which their number fits, with this number.
abbrev pub CanonIsAccepted : Type 0
CanonIsAccepted = (value width : ℕ) → value < 2 ^ width → IsAccepted (canon value) width value

-- Each number has canonical bytes.
abbrev pub CanonIsCanonical : Type 0
CanonIsCanonical = (value : ℕ) → IsCanonical (canon value) value

-- It has no others.
abbrev pub OneCanonical : Type 0
OneCanonical = (bytes : List ℕ) (value : ℕ) → IsCanonical bytes value → bytes ≡ canon value

-- No accepted bytes of a number are shorter than its canonical ones.
abbrev pub CanonIsShortest : Type 0
CanonIsShortest = (bytes : List ℕ) (width value : ℕ) → All (λ b. b < 256) bytes → IsAccepted bytes width value → length (canon value) ≤ length bytes

-- Some byte strings and their numbers.
pub record WorkedStrings : Type 0 where
  pub one_byte : num (bits (0x63 ∷ [])) ≡ 99
  pub leading_zero : num (bits (0 ∷ 0x63 ∷ [])) ≡ 99
  pub two_bytes : num (bits (0x30 ∷ 0x64 ∷ [])) ≡ 12388
  pub shortest : canon 99 ≡ 0x63 ∷ []
  pub big_endian : canon 12388 ≡ 0x30 ∷ 0x64 ∷ []
  pub zero_is : canon 0 ≡ 0 ∷ []
