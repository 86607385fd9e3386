-- Lists of events that are legal in a state, and the state after them.
use Rattle.std.specs.Prelude.{List, [], ◌∷◌}

module _ {S E : Type 0} (applied : S → E → S) where
  -- the state after these events, from a state on
  abbrev pub after : S → List E → S
  after s [] = s
  after s (e ∷ es) = after (applied s e) es

  -- each event may come in the state after those before it
  abbrev pub IsLegal : (S → E → Type 0) → S → List E → Type 0
  IsLegal may s [] = Unit {0}
  IsLegal may s (e ∷ es) = may s e × IsLegal may (applied s e) es
