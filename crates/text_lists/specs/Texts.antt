-- Texts that stand one behind another, by their lengths.
use Rattle.std.specs.Prelude.{◌≡◌, ℕ, ◌+◌, List, [], ◌∷◌, length, take, drop}
use Rattle.std.specs.Str.{IsUtf8}

-- the texts
abbrev pub texts_in : List ℕ → List ℕ → List (List ℕ)
texts_in [] bytes = []
texts_in (n ∷ lengths) bytes = take n bytes ∷ texts_in lengths (drop n bytes)

-- the lengths are those of texts in UTF-8 which the bytes are
abbrev pub AreTexts : List ℕ → List ℕ → Type 0
AreTexts [] bytes = length bytes ≡ 0
AreTexts (n ∷ lengths) bytes = (length (take n bytes) ≡ n) × (IsUtf8 (take n bytes) × AreTexts lengths (drop n bytes))
