-- Laws of legal lists.
use Rattle.std.specs.Prelude.{◌≡◌, List, [], ◌∷◌, ◌++◌}
use mathlib.Core.List.{IsPrefix}
use Rattle.event_log.specs.Legal.{after, IsLegal}

module _ {S E : Type 0} (applied : S → E → S) where
  -- the state after two lists is that after the second from the state after the first
  abbrev pub ComesAfter : S → Type 0
  ComesAfter start = (xs ys : List E) → after applied start (xs ++ ys) ≡ after applied (after applied start xs) ys

  module _ (may : S → E → Type 0) where
    -- a legal list goes on with what is legal after it
    abbrev pub GoesOn : S → Type 0
    GoesOn start = (xs ys : List E) → IsLegal applied may start xs → IsLegal applied may (after applied start xs) ys → IsLegal applied may start (xs ++ ys)

    -- a legal list goes on with an event that may come after it
    abbrev pub GoesOnByOne : S → Type 0
    GoesOnByOne start = (xs : List E) (e : E) → IsLegal applied may start xs → may (after applied start xs) e → IsLegal applied may start (xs ++ e ∷ [])

    -- a beginning of a legal list is legal
    abbrev pub BeginsLegal : S → Type 0
    BeginsLegal start = (xs ys : List E) → IsPrefix xs ys → IsLegal applied may start ys → IsLegal applied may start xs
