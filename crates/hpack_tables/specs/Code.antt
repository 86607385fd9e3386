-- The Huffman code of octets (RFC 7541, section 5.2 and appendix B). It is canonical: codes rise by their length, then by symbol.
use Rattle.std.specs.Prelude.{ℕ, zero, suc, ◌+◌, ◌-◌, ◌*◌, ◌==◌, nat_lt, if◌then◌else◌, List, [], ◌∷◌, length, slice_get, Option, None}

-- how many bits the code of each symbol has: of the octets 0 to 255, and of EOS, which is 256
unfoldable pub code_lengths : List ℕ
code_lengths =
    13 ∷ 23 ∷ 28 ∷ 28 ∷ 28 ∷ 28 ∷ 28 ∷ 28 ∷ 28 ∷ 24 ∷ 30 ∷ 28 ∷ 28 ∷ 30 ∷ 28 ∷ 28 ∷
    28 ∷ 28 ∷ 28 ∷ 28 ∷ 28 ∷ 28 ∷ 30 ∷ 28 ∷ 28 ∷ 28 ∷ 28 ∷ 28 ∷ 28 ∷ 28 ∷ 28 ∷ 28 ∷
    6 ∷ 10 ∷ 10 ∷ 12 ∷ 13 ∷ 6 ∷ 8 ∷ 11 ∷ 10 ∷ 10 ∷ 8 ∷ 11 ∷ 8 ∷ 6 ∷ 6 ∷ 6 ∷
    5 ∷ 5 ∷ 5 ∷ 6 ∷ 6 ∷ 6 ∷ 6 ∷ 6 ∷ 6 ∷ 6 ∷ 7 ∷ 8 ∷ 15 ∷ 6 ∷ 12 ∷ 10 ∷
    13 ∷ 6 ∷ 7 ∷ 7 ∷ 7 ∷ 7 ∷ 7 ∷ 7 ∷ 7 ∷ 7 ∷ 7 ∷ 7 ∷ 7 ∷ 7 ∷ 7 ∷ 7 ∷
    7 ∷ 7 ∷ 7 ∷ 7 ∷ 7 ∷ 7 ∷ 7 ∷ 7 ∷ 8 ∷ 7 ∷ 8 ∷ 13 ∷ 19 ∷ 13 ∷ 14 ∷ 6 ∷
    15 ∷ 5 ∷ 6 ∷ 5 ∷ 6 ∷ 5 ∷ 6 ∷ 6 ∷ 6 ∷ 5 ∷ 7 ∷ 7 ∷ 6 ∷ 6 ∷ 6 ∷ 5 ∷
    6 ∷ 7 ∷ 6 ∷ 5 ∷ 5 ∷ 6 ∷ 7 ∷ 7 ∷ 7 ∷ 7 ∷ 7 ∷ 15 ∷ 11 ∷ 14 ∷ 13 ∷ 28 ∷
    20 ∷ 22 ∷ 20 ∷ 20 ∷ 22 ∷ 22 ∷ 22 ∷ 23 ∷ 22 ∷ 23 ∷ 23 ∷ 23 ∷ 23 ∷ 23 ∷ 24 ∷ 23 ∷
    24 ∷ 24 ∷ 22 ∷ 23 ∷ 24 ∷ 23 ∷ 23 ∷ 23 ∷ 23 ∷ 21 ∷ 22 ∷ 23 ∷ 22 ∷ 23 ∷ 23 ∷ 24 ∷
    22 ∷ 21 ∷ 20 ∷ 22 ∷ 22 ∷ 23 ∷ 23 ∷ 21 ∷ 23 ∷ 22 ∷ 22 ∷ 24 ∷ 21 ∷ 22 ∷ 23 ∷ 23 ∷
    21 ∷ 21 ∷ 22 ∷ 21 ∷ 23 ∷ 22 ∷ 23 ∷ 23 ∷ 20 ∷ 22 ∷ 22 ∷ 22 ∷ 23 ∷ 22 ∷ 22 ∷ 23 ∷
    26 ∷ 26 ∷ 20 ∷ 19 ∷ 22 ∷ 23 ∷ 22 ∷ 25 ∷ 26 ∷ 26 ∷ 26 ∷ 27 ∷ 27 ∷ 26 ∷ 24 ∷ 25 ∷
    19 ∷ 21 ∷ 26 ∷ 27 ∷ 27 ∷ 26 ∷ 27 ∷ 24 ∷ 21 ∷ 21 ∷ 26 ∷ 26 ∷ 28 ∷ 27 ∷ 27 ∷ 27 ∷
    20 ∷ 24 ∷ 20 ∷ 21 ∷ 22 ∷ 21 ∷ 21 ∷ 23 ∷ 22 ∷ 22 ∷ 25 ∷ 25 ∷ 24 ∷ 24 ∷ 26 ∷ 23 ∷
    26 ∷ 27 ∷ 26 ∷ 26 ∷ 27 ∷ 27 ∷ 27 ∷ 27 ∷ 27 ∷ 28 ∷ 27 ∷ 27 ∷ 27 ∷ 27 ∷ 27 ∷ 26 ∷
    30 ∷ []

-- the symbols whose code has so many bits, where the first of these lengths is that of the given symbol
unfoldable pub symbols_from : ℕ → ℕ → List ℕ → List ℕ
symbols_from bits symbol [] = []
symbols_from bits symbol (first ∷ lengths) = if first == bits then symbol ∷ symbols_from bits (suc symbol) lengths else symbols_from bits (suc symbol) lengths

-- the symbols whose code has so many bits, rising
unfoldable pub symbols_of : ℕ → List ℕ
symbols_of bits = symbols_from bits 0 code_lengths

-- The first code of so many bits, as a number. Codes of a length follow one another, and the first comes after the last shorter one.
unfoldable pub first_code : ℕ → ℕ
first_code zero = 0
first_code (suc bits) = 2 * (first_code bits + length (symbols_of bits))

-- the symbol whose code has so many bits and this number, if there is one
unfoldable pub symbol_of : ℕ → ℕ → Option ℕ
symbol_of bits code = if nat_lt code (first_code bits) then None else slice_get (symbols_of bits) (code - first_code bits)
