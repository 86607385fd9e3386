-- Names that stand beside numbers.
use Rattle.std.specs.Prelude.{ℕ, min, List, [], ◌∷◌, map}
use Rattle.std.specs.Borrow.{Bor}
use Rattle.std.specs.Ordering.{match_ordering, nat_cmp}
use Rattle.std.specs.Cmp.Lexicographic.{slice_cmp}

-- a name and a number
abbrev pub Numbered : Type 0
Numbered = List ℕ × ℕ

-- the same, where the names are borrowed
abbrev pub numbered : List (Bor (List ℕ) × ℕ) → List Numbered
numbered ps = map (λ p. (p.0.now, p.1)) ps

-- one more among some by rising names; of two numbers at a name the lower stays
abbrev pub with_first : Numbered → List Numbered → List Numbered
with_first p [] = p ∷ []
with_first p (q ∷ qs) = match_ordering (slice_cmp nat_cmp p.0 q.0) (p ∷ q ∷ qs) ((q.0, min p.1 q.1) ∷ qs) (q ∷ with_first p qs)

-- each name once, by rising names, with the lowest of its numbers
abbrev pub firsts : List Numbered → List Numbered
firsts [] = []
firsts (p ∷ ps) = with_first p (firsts ps)
