-- Numbers in digits of base 128: seven bits a byte, the least significant first, and the top bit set in each byte but the last.
use Rattle.std.specs.Prelude.{ℕ, zero, suc, ◌+◌, ◌/◌, ◌%◌, nat_lt, if◌then◌else◌, List, [], ◌∷◌}

-- the digits of a number, as few as can be, and at most so many
unfoldable pub base_128 : ℕ → ℕ → List ℕ
base_128 zero value = []
base_128 (suc more) value = if nat_lt value 128 then value ∷ [] else (value % 128 + 128) ∷ base_128 more (value / 128)
