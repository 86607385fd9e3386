-- The bytes of a frame in their parts.
use Rattle.std.specs.Prelude.{◌≡◌, ◌≤◌, ◌⊎◌, ℕ, true, List, [], ◌∷◌, Option, Some, None, length}
use Rattle.h2_frames.specs.Reading.{head_at, is_padded_data}

-- the byte that tells how long the padding is, if it has come
abbrev pub padding_byte : Option ℕ → List ℕ
padding_byte None = []
padding_byte (Some padding) = padding ∷ []

-- The first nine bytes stand apart from what comes behind them, and of DATA with padding the next one may too.
abbrev pub IsApart : List ℕ → Option ℕ → List ℕ → Type 0
IsApart head None payload = (length head ≡ 9) ⊎ ((length head ≤ 9) × (payload ≡ []))
IsApart head (Some padding) payload = (length head ≡ 9) × (is_padded_data (head_at head) ≡ true)
