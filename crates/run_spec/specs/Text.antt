-- Words of a report: numbers are decimal, bytes are hex in lower case (this project's profile).
use Rattle.std.specs.Prelude.{ℕ, zero, suc, List, [], ◌∷◌, ◌++◌, map, codes, Option, Some, None}
use Rattle.std.specs.List.{join_with_byte}
use Rattle.hex.specs.Hex.{encode_lower}

-- bytes in hex, or a dot for none
abbrev pub hex_word : List ℕ → List ℕ
hex_word [] = codes "."
hex_word (b ∷ bytes) = encode_lower (b ∷ bytes)

-- two words joined by a colon
abbrev pub pair_word : List ℕ → List ℕ → List ℕ
pair_word first second = first ++ (codes ":" ++ second)

-- the words of the items joined by commas, or a dash for none
abbrev pub list_word : {A : Type 0} → (A → List ℕ) → List A → List ℕ
list_word word [] = codes "-"
list_word word (x ∷ xs) = join_with_byte 44 (map word (x ∷ xs))

-- the word of the item, or a dash for none
abbrev pub option_word : {A : Type 0} → (A → List ℕ) → Option A → List ℕ
option_word word None = codes "-"
option_word word (Some x) = word x

-- words parted by one space, and LF
abbrev pub line : List (List ℕ) → List ℕ
line words = join_with_byte 32 words ++ codes "\n"

-- so many numbers, from this one on
abbrev pub count_up : ℕ → ℕ → List ℕ
count_up from zero = []
count_up from (suc k) = from ∷ count_up (suc from) k
