-- The rule of the list, and what a step of its word tells.
use Rattle.std.specs.Prelude.{ℕ, ◌≡◌, ◌==◌, true, List, [], ◌∷◌, ◌++◌, length, MatchBool}
use Rattle.logbook.specs.Pages.{Cell, Step, View, Book, Named}
use Rattle.event_log.specs.Legal.{IsLegal}

-- the word of a list
abbrev pub length_word : Book → Named
length_word b = record { tracked = true; key = 0; book = b }

module _ {S E : Type 0} (start : S) (applied : S → E → S) (may : S → E → Type 0) where
  -- The word is the length of the list, which is legal. A book has two words, of which the second stays 0
  pub record IsKept (cells : List Cell) (log : List E) : Type 0 where
    pub words : cells ≡ (length log, true) ∷ (0, true) ∷ []
    pub legal : IsLegal applied may start log

  -- the event was added to all that had been seen; or the list had more, and was seen
  abbrev pub Added : Step E → View E ℕ → ℕ → View E ℕ → Type 0
  Added s v found w = MatchBool (found == s.old) (w.0 ≡ v.0 ++ s.ask ∷ []) (length w.0 ≡ found) × IsLegal applied may start w.0
