-- The greatest number over a list of which one item is replaced or added.
use Rattle.std.proofs.Common.{◌≡◌, ℕ, zero, suc, ◌≤◌, max, List, [], ◌∷◌, ◌++◌, set, ap, refl, sym, arith}
use mathlib.Core.Option.{some, some-injective, some-ne-none}
use lib.ListN.{get_elem?}
use Rattle.idle_words.specs.Moments.{greatest_by}

module _ {A : Type 0} (f : A → ℕ) where
  pub greatest_has : (xs : List A) (k : ℕ) (v : A) → get_elem? xs k ≡ some v → f v ≤ greatest_by f xs
  greatest_has [] k v e = absurd (some-ne-none v (sym e))
  greatest_has (x ∷ xs) zero v e = let same : f x ≡ f v = ap f (some-injective x v e) in omega (arith, same)
  greatest_has (x ∷ xs) (suc k) v e = omega (arith, greatest_has xs k v e)

  -- an item grows
  pub greatest_set : (xs : List A) (k : ℕ) (v w : A) → get_elem? xs k ≡ some v → f v ≤ f w → greatest_by f (set xs k w) ≡ max (greatest_by f xs) (f w)
  greatest_set [] k v w e grows = absurd (some-ne-none v (sym e))
  greatest_set (x ∷ xs) zero v w e grows = let same : f x ≡ f v = ap f (some-injective x v e) in omega (arith, same, grows)
  greatest_set (x ∷ xs) (suc k) v w e grows = omega (arith, greatest_set xs k v w e grows)

  -- an item falls
  fallen : (xs : List A) (k : ℕ) (v w : A) → get_elem? xs k ≡ some v → f w ≤ f v → (greatest_by f xs ≤ max (greatest_by f (set xs k w)) (f v)) × (greatest_by f (set xs k w) ≤ greatest_by f xs)
  fallen [] k v w e falls = absurd (some-ne-none v (sym e))
  fallen (x ∷ xs) zero v w e falls = let same : f x ≡ f v = ap f (some-injective x v e) in (omega (arith, same, falls), omega (arith, same, falls))
  fallen (x ∷ xs) (suc k) v w e falls = let rest = fallen xs k v w e falls in (omega (arith, rest.0), omega (arith, rest.1))

  -- and another one is as great
  pub greatest_covered : (xs : List A) (i k : ℕ) (u v w : A) → ¬ (k ≡ i) → get_elem? xs i ≡ some u → get_elem? xs k ≡ some v → f v ≤ f u → f w ≤ f v → greatest_by f (set xs k w) ≡ greatest_by f xs
  greatest_covered [] i k u v w apart at there covers falls = absurd (some-ne-none v (sym there))
  greatest_covered (x ∷ xs) zero zero u v w apart at there covers falls = absurd (apart refl)
  greatest_covered (x ∷ xs) zero (suc k) u v w apart at there covers falls =
      let same : f x ≡ f u = ap f (some-injective x u at) in
      let rest = fallen xs k v w there falls in omega (arith, same, covers, rest.0, rest.1)
  greatest_covered (x ∷ xs) (suc i) zero u v w apart at there covers falls =
      let same : f x ≡ f v = ap f (some-injective x v there) in omega (arith, same, covers, falls, greatest_has xs i u at)
  greatest_covered (x ∷ xs) (suc i) (suc k) u v w apart at there covers falls = omega (arith, greatest_covered xs i k u v w (λ e. apart (ap suc e)) at there covers falls)

  -- an item is added
  pub greatest_push : (xs : List A) (w : A) → greatest_by f (xs ++ w ∷ []) ≡ max (greatest_by f xs) (f w)
  greatest_push [] w = omega arith
  greatest_push (x ∷ xs) w = omega (arith, greatest_push xs w)

  -- all but one are 0
  none_greater : (xs : List A) → ((k : ℕ) (u : A) → get_elem? xs k ≡ some u → f u ≡ 0) → greatest_by f xs ≡ 0
  none_greater [] h = refl
  none_greater (x ∷ xs) h = omega (arith, h zero x refl, none_greater xs (λ k u. h (suc k) u))

  pub greatest_alone : (xs : List A) (i : ℕ) (v : A) → get_elem? xs i ≡ some v → ((k : ℕ) (u : A) → ¬ (k ≡ i) → get_elem? xs k ≡ some u → f u ≡ 0) → greatest_by f xs ≡ f v
  greatest_alone [] i v at h = absurd (some-ne-none v (sym at))
  greatest_alone (x ∷ xs) zero v at h =
      let same : f x ≡ f v = ap f (some-injective x v at) in
      omega (arith, same, none_greater xs (λ k u e. h (suc k) u (λ z. omega (arith, z)) e))
  greatest_alone (x ∷ xs) (suc i) v at h =
      omega (arith, h zero x (λ z. omega (arith, z)) refl, greatest_alone xs i v at (λ k u ne e. h (suc k) u (λ z. ne (omega (arith, z))) e))
