-- What a tick has found so far.
use Rattle.std.specs.Prelude.{◌≡◌, ℕ, ◌+◌, Option, List, [], ◌∷◌, map, fold, All}
use Rattle.counter_bank.specs.Figures.{raise_at}
use Rattle.idle_words.specs.declared.idle.Mark.{Mark}
use Rattle.idle_words.specs.declared.idle.Watched.{Watched}
use Rattle.idle_words.specs.Account.{Account}
use Rattle.idle_words.specs.Idle.{Look, IsSince, named, names, earliest, after_looks}

-- the hit that is told with a look
abbrev pub mark_of : Look → Mark
mark_of look = record { stamp = look.entry.stamp; after = look.last + 1 }

-- the name of one look, where it is named
abbrev pub more_names : List ℕ → ℕ → Look → List ℕ
more_names untold now look = names untold now (look ∷ [])

-- its mark
abbrev pub more_marks : List ℕ → ℕ → Look → List Mark
more_marks untold now look = map mark_of (named untold now (look ∷ []))

-- what is not told, with these marks
abbrev pub raised_by : List ℕ → List Mark → List ℕ
raised_by untold marks = fold (λ before (mark : Mark). raise_at before mark.stamp mark.after) untold marks

-- what was found at the first entries
pub record Scanned (now : ℕ) (untold : List ℕ) (entries : List Watched) (was is : Account) (answer : List ℕ) (marks : List Mark) (next : Option ℕ) : Type 0 where
  pub looks : List Look
  pub entries_are : map (λ (look : Look). look.entry) looks ≡ entries
  pub moments : All (IsSince was) looks
  pub seat_is : is ≡ after_looks was looks
  pub names_are : answer ≡ names untold now looks
  pub marks_are : marks ≡ map mark_of (named untold now looks)
  pub next_is : next ≡ earliest now looks
