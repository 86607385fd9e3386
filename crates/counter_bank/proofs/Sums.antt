-- Sums over a list of which one item is replaced, added or left alone.
use Rattle.std.proofs.Common.{◌≡◌, ℕ, zero, suc, ◌+◌, ◌≤◌, List, [], ◌∷◌, set, ap, refl, sym, arith, sum_by}
use Rattle.std.proofs.lemmas.List.Sums.{sum_by-cons}
use mathlib.Core.Option.{some, some-injective, some-ne-none}
use lib.ListN.{get_elem?}

module _ {A : Type 0} where
  pub sum_set : (f : A → ℕ) (xs : List A) (k : ℕ) (v w : A) → get_elem? xs k ≡ some v → sum_by f (set xs k w) + f v ≡ sum_by f xs + f w
  sum_set f [] k v w e = absurd (some-ne-none v (sym e))
  sum_set f (x ∷ xs) zero v w e = let same : f x ≡ f v = ap f (some-injective x v e) in omega (arith, sum_by-cons f x xs, sum_by-cons f w xs, same)
  sum_set f (x ∷ xs) (suc k) v w e = omega (arith, sum_by-cons f x xs, sum_by-cons f x (set xs k w), sum_set f xs k v w e)

  pub sum_has : (f : A → ℕ) (xs : List A) (k : ℕ) (v : A) → get_elem? xs k ≡ some v → f v ≤ sum_by f xs
  sum_has f [] k v e = absurd (some-ne-none v (sym e))
  sum_has f (x ∷ xs) zero v e = let same : f x ≡ f v = ap f (some-injective x v e) in omega (arith, sum_by-cons f x xs, same)
  sum_has f (x ∷ xs) (suc k) v e = omega (arith, sum_by-cons f x xs, sum_has f xs k v e)

  -- where f sums to nothing, so does g
  pub sum_none : (f g : A → ℕ) (xs : List A) → sum_by f xs ≡ 0 → ((k : ℕ) (u : A) → get_elem? xs k ≡ some u → f u ≡ 0 → g u ≡ 0) → sum_by g xs ≡ 0
  sum_none f g [] e h = refl
  sum_none f g (x ∷ xs) e h =
      let here : f x ≡ 0 = omega (arith, sum_by-cons f x xs, e) in
      let rest : sum_by f xs ≡ 0 = omega (arith, sum_by-cons f x xs, e) in
      omega (arith, sum_by-cons g x xs, h zero x refl here, sum_none f g xs rest (λ k u. h (suc k) u))

  -- one item has all of f, so it has all of g
  pub sum_whole : (f g : A → ℕ) (xs : List A) (k : ℕ) (v : A) → get_elem? xs k ≡ some v → sum_by f xs ≡ f v → ((j : ℕ) (u : A) → get_elem? xs j ≡ some u → f u ≡ 0 → g u ≡ 0) → sum_by g xs ≡ g v
  sum_whole f g [] k v at e h = absurd (some-ne-none v (sym at))
  sum_whole f g (x ∷ xs) zero v at e h =
      let same : x ≡ v = some-injective x v at in
      let rest : sum_by f xs ≡ 0 = omega (arith, sum_by-cons f x xs, e, ap f same) in
      omega (arith, sum_by-cons g x xs, ap g same, sum_none f g xs rest (λ j u. h (suc j) u))
  sum_whole f g (x ∷ xs) (suc k) v at e h =
      let here : f x ≡ 0 = omega (arith, sum_by-cons f x xs, e, sum_has f xs k v at) in
      let rest : sum_by f xs ≡ f v = omega (arith, sum_by-cons f x xs, e, here) in
      omega (arith, sum_by-cons g x xs, h zero x refl here, sum_whole f g xs k v at rest (λ j u. h (suc j) u))
