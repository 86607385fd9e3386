-- Bits of bytes, and the number that bits spell.
use Rattle.std.specs.Prelude.{ℕ, List, [], ◌∷◌, map}
use Rattle.std.specs.List.{flat_map}
use Rattle.std.specs.Int.{bit_at}
use Rattle.std.specs.Int.Digits.{number_from_digits}

-- the eight bits of a byte, most significant first
abbrev pub byte_bits : ℕ → List ℕ
byte_bits byte = map (bit_at byte) (7 ∷ 6 ∷ 5 ∷ 4 ∷ 3 ∷ 2 ∷ 1 ∷ 0 ∷ [])

-- the bits of bytes, most significant first
unfoldable pub bits : List ℕ → List ℕ
bits bytes = flat_map byte_bits bytes

-- the number that bits spell, most significant first
unfoldable pub num : List ℕ → ℕ
num spelled = number_from_digits 2 spelled
