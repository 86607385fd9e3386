-- A byte string is a big-endian number (P4Runtime 1.3.0, "Bytestrings").
use Rattle.std.specs.Prelude.{◌≡◌, ◌≢◌, ℕ, ◌^◌, ◌<◌, ◌⊎◌, ◌==◌, if◌then◌else◌, List, [], ◌∷◌, All, slice_index}
use Rattle.std.specs.Int.Digits.{digits_of}
use Rattle.canon_bytes.specs.Bits.{bits, num}

-- The bytes are accepted for a value of so many bits, with this number. Leading zero bytes may stand there.
pub record IsAccepted (bytes : List ℕ) (width value : ℕ) : Type 0 where
  pub not_empty : bytes ≢ []
  pub value_is : value ≡ num (bits bytes)
  pub fits : value < 2 ^ width

-- The bytes are the canonical ones of this number: no leading zero byte, and zero is the one byte 00.
pub record IsCanonical (bytes : List ℕ) (value : ℕ) : Type 0 where
  pub are_bytes : All (λ b. b < 256) bytes
  pub value_is : value ≡ num (bits bytes)
  pub leading : (bytes ≡ 0 ∷ []) ⊎ (0 < slice_index bytes 0)

-- the canonical bytes of a number
unfoldable pub canon : ℕ → List ℕ
canon value = if value == 0 then 0 ∷ [] else digits_of 256 value
