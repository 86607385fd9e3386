-- Fields of a packet: runs of bits at any offset.
use Rattle.std.specs.Prelude.{◌≡◌, ℕ, zero, suc, ◌+◌, List, [], ◌∷◌, length, take, drop}
use Rattle.std.specs.Int.{bit_at}
use Rattle.canon_bytes.specs.Bits.{bits, num}

-- the number that the bits of a field spell: `width` bits from bit number `bit` on, most significant first
unfoldable pub field : List ℕ → ℕ → ℕ → ℕ
field bytes bit width = num (take width (drop bit (bits bytes)))

-- All bits outside a field are the same in both byte strings, which are equally long.
pub record SameOutside (old new : List ℕ) (bit width : ℕ) : Type 0 where
  pub as_long : length new ≡ length old
  pub before : take bit (bits new) ≡ take bit (bits old)
  pub after : drop (bit + width) (bits new) ≡ drop (bit + width) (bits old)

-- the lowest bits of a number, most significant first
abbrev pub number_bits : ℕ → ℕ → List ℕ
number_bits zero number = []
number_bits (suc width) number = bit_at number width ∷ number_bits width number
