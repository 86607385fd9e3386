-- Legal lists that go on.
use Rattle.std.proofs.Common.{List, [], ◌∷◌, ◌++◌, refl, sym, subst}
use Rattle.event_log.specs.Legal.{IsLegal}
use Rattle.event_log.specs.Laws.{ComesAfter, GoesOn, GoesOnByOne, BeginsLegal}

module _ {S E : Type 0} (applied : S → E → S) where
  pub comes_after : (start : S) → ComesAfter applied start
  comes_after start [] ys = refl
  comes_after start (x ∷ xs) ys = comes_after (applied start x) xs ys

  module _ (may : S → E → Type 0) where
    pub goes_on : (start : S) → GoesOn applied may start
    goes_on start [] ys first second = second
    goes_on start (x ∷ xs) ys first second = (first.0, goes_on (applied start x) xs ys first.1 second)

    pub goes_on_by_one : (start : S) → GoesOnByOne applied may start
    goes_on_by_one start xs e first next = goes_on start xs (e ∷ []) first (next, tt)

    first_legal : (start : S) (xs ys : List E) → IsLegal applied may start (xs ++ ys) → IsLegal applied may start xs
    first_legal start [] ys legal = tt
    first_legal start (x ∷ xs) ys legal = (legal.0, first_legal (applied start x) xs ys legal.1)

    pub begins_legal : (start : S) → BeginsLegal applied may start
    begins_legal start xs ys pre legal = first_legal start xs pre.0 (subst (IsLegal applied may start) (sym pre.1) legal)
