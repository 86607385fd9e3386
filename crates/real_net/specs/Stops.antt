-- What asks whether a loop is to end.
use Rattle.std.specs.Prelude.{ℕ, Bool, true, List, [], ◌∷◌}

-- a flag, and how often it showed yes
pub record HeldFlag (F : Type 0) : Type 0 where
  pub flag : F
  pub yeses : ℕ

-- the answers to come, and how often one was yes
pub record HeldAnswers : Type 0 where
  pub coming : List Bool
  pub yeses : ℕ

-- the next answer; yes behind the last one
abbrev pub next_answer : List Bool → Bool
next_answer [] = true
next_answer (answer ∷ rest) = answer
