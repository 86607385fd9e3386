-- Runs of bits and the numbers that they spell.
use Rattle.std.specs.Prelude.{ℕ, zero, suc, ◌-◌, ◌/◌, ◌%◌, List, [], ◌∷◌, ◌++◌, length, take, drop, replicate}
use Rattle.canon_bytes.specs.Bits.{num}

-- the numbers of runs of bits that have these widths and stand one behind the other
abbrev pub runs : List ℕ → List ℕ → List ℕ
runs [] bits = []
runs (width ∷ widths) bits = num (take width bits) ∷ runs widths (drop width bits)

-- the numbers of so many runs of one width
abbrev pub words : ℕ → ℕ → List ℕ → List ℕ
words width zero bits = []
words width (suc more) bits = num (take width bits) ∷ words width more (drop width bits)

-- bits with zero bits behind them up to a whole number of runs of a width
abbrev pub padded : ℕ → List ℕ → List ℕ
padded width bits = bits ++ replicate ((width - length bits % width) % width) 0

-- the bytes of bits, whose last one is filled up with zero bits
abbrev pub bytes_of : List ℕ → List ℕ
bytes_of bits = words 8 (length (padded 8 bits) / 8) (padded 8 bits)
