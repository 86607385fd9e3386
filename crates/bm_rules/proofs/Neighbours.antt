-- Items that occur twice, by the neighbours in their sorted list.
use Rattle.std.proofs.Common.{◌≡◌, ℕ, zero, suc, ◌<◌, ◌≤◌, ◌∙◌, refl, sym, ap, Bool, true, false, not, nat_lt, List, [], ◌∷◌, length, get_or, Ordering, Less, Equal, Greater, Bor, map, IsPermutation, IsSorted, is_eq, is_lt, arith, add-one}
use Rattle.std.specs.Prelude.{⊤}
use Rattle.std.specs.Cmp.{IsTotalOrder}
use Rattle.std.specs.List.{list_any, IsDistinct, AllByRecursion, IsAllAdjacentAnswer, AllAdjacentBelow}
use Rattle.std.specs.Ordering.{eq_by_cmp, nat_cmp, ordering_reverse}
use Rattle.std.specs.Cmp.Lexicographic.{slice_cmp}
use Rattle.std.specs.Str.{bytes_eq}
use Rattle.std.proofs.lemmas.Map.Text.{is_eq-slice_cmp}
use Rattle.std.specs.Set.{distinct_count}
use Rattle.std.proofs.lemmas.Bool.{true≢false}
use Rattle.std.proofs.lemmas.Bool.Decides.{nat_tests}
use Rattle.std.proofs.lemmas.Cmp.{eq_by_cmp_equiv, nat_list_cmp_total, on_total}
use Rattle.std.proofs.lemmas.List.Sorted.{length_permutation, list_any-IsPermutation}
use Rattle.std.proofs.lemmas.Map.Made.{distinct_count-le, length-from_keys, IsDistinct-from_count}
use Rattle.bm_rules.specs.Names.{repeats, names_repeat}
use Rattle.bm_rules.proofs.Sameness.{repeats_seen, map_twice}

is_less : (p : Ordering) → true ≡ is_lt p → p ≡ Less
is_less Less e = refl
is_less Equal e = absurd (true≢false e)
is_less Greater e = absurd (true≢false e)

not_below : (d n : ℕ) → (d ≡ n) → nat_lt d n ≡ false
not_below d n e = grind (arith, nat_tests)

below_by : (d n : ℕ) → d ≤ n → (d ≡ n → ⊥) → (b : Bool) → nat_lt d n ≡ b → nat_lt d n ≡ true
below_by d n le apart true e = e
below_by d n le apart false e =
    let high : n ≤ d = grind (arith, nat_tests) in
    let level : d ≡ n = omega arith in
    absurd (apart level)

module _ {K : Type 0} {R : K → K → Ordering} (o : IsTotalOrder R) where
  -- each item is below the next one
  abbrev Climbs : List K → Type 0
  Climbs [] = ⊤
  Climbs (x ∷ []) = ⊤
  Climbs (x ∷ y ∷ ys) = (R x y ≡ Less) × Climbs (y ∷ ys)

  climbs : (ys : List K) → AllAdjacentBelow (λ x y. true ≡ is_lt (R x y)) ys (length ys) → Climbs ys
  climbs [] up = tt
  climbs (x ∷ []) up = tt
  climbs (x ∷ y ∷ ys) up = (is_less (R x y) (up 0 x (omega arith)), climbs (y ∷ ys) (λ k d within. rw add-one (rw add-one at (up (suc k) d (omega arith)))))

  -- what is below the first item is equal to none
  above_all : (w x : K) (ys : List K) → R w x ≡ Less → Climbs (x ∷ ys) → AllByRecursion (λ y. eq_by_cmp R w y ≡ false) (x ∷ ys)
  above_all w x [] e up = (ap is_eq e, tt)
  above_all w x (y ∷ ys) e up = (ap is_eq e, above_all w y ys (o.trans w x y e up.0) up.1)

  distinct : (ys : List K) → Climbs ys → IsDistinct (eq_by_cmp R) ys
  unfolding IsDistinct
  distinct [] up = tt
  distinct (x ∷ []) up = (tt, tt)
  distinct (x ∷ y ∷ ys) up = (above_all x y ys up.0 up.1, distinct (y ∷ ys) up.1)

  -- neighbours in a sorted list of which the one is not below the other
  tied : (x y : K) (p : Ordering) → R x y ≡ p → false ≡ is_lt p → is_lt (R y x) ≡ false → is_eq p ≡ true
  tied x y Less e level up = absurd (true≢false (sym level))
  tied x y Equal e level up = refl
  tied x y Greater e level up = absurd (true≢false (sym (ap is_lt (o.antisymm y x ∙ ap ordering_reverse e)) ∙ up))

  clash : (ys : List K) (k : ℕ) (d : K) → suc k < length ys → eq_by_cmp R (get_or ys k d) (get_or ys (suc k) d) ≡ true → IsDistinct (eq_by_cmp R) ys → ⊥
  unfolding IsDistinct
  clash [] k d within e apart = absurd (omega arith)
  clash (x ∷ []) k d within e apart = absurd (omega arith)
  clash (x ∷ y ∷ ys) zero d within e apart = true≢false (sym e ∙ apart.0.0)
  clash (x ∷ y ∷ ys) (suc k) d within e apart = clash (y ∷ ys) k d (omega arith) e apart.1

  twice_at : (ys : List K) (k : ℕ) (d : K) → suc k < length ys → false ≡ is_lt (R (get_or ys k d) (get_or ys (suc k) d)) → is_lt (R (get_or ys (suc k) d) (get_or ys k d)) ≡ false → IsDistinct (eq_by_cmp R) ys → ⊥
  twice_at ys k d within level up = clash ys k d within (tied (get_or ys k d) (get_or ys (suc k) d) _ refl level up)

  first_of : (ys : List K) (k : ℕ) → suc k < length ys → K
  first_of [] k within = absurd (omega arith)
  first_of (x ∷ ys) k within = x

  module _ (xs ys : List K) (moved : IsPermutation xs ys) where
    members : (q : K) → list_any (eq_by_cmp R q) xs ≡ list_any (eq_by_cmp R q) ys
    members q = list_any-IsPermutation (eq_by_cmp R q) xs ys moved

    apart : IsDistinct (eq_by_cmp R) ys → repeats (eq_by_cmp R) xs ≡ false
    apart alone =
        let count = length-from_keys (eq_by_cmp_equiv o) ys xs alone (λ q. sym (members q)) in
        not_below (distinct_count (eq_by_cmp R) xs) (length xs) (sym count ∙ length_permutation xs ys moved)

    some_twice : (IsDistinct (eq_by_cmp R) ys → ⊥) → repeats (eq_by_cmp R) xs ≡ true
    some_twice twice =
        below_by (distinct_count (eq_by_cmp R) xs) (length xs) (distinct_count-le (eq_by_cmp R) xs)
        (λ e. twice (IsDistinct-from_count (eq_by_cmp_equiv o) ys (sym (length-from_keys (eq_by_cmp_equiv o) xs ys (IsDistinct-from_count (eq_by_cmp_equiv o) xs e) members) ∙ sym (length_permutation xs ys moved))))
        _ refl

    -- in the sorted list each item is below the next one, or else an item occurs twice
    pub by_neighbours : IsSorted R ys → (r : Bool) → IsAllAdjacentAnswer (λ x y b. b ≡ is_lt (R x y)) ys r → not r ≡ repeats (eq_by_cmp R) xs
    by_neighbours up true all = sym (apart (distinct ys (climbs ys all)))
    by_neighbours up false (k, within, level) =
        let inside : suc k < length ys = omega arith in
        let d = first_of ys k inside in
        sym (some_twice (twice_at ys k d inside (rw add-one at (level d)) (rw add-one at (up k d (omega arith) within))))

-- the same of objects by their names
module _ {X : Type 0} (label : X → List ℕ) where
  abbrev pub by_name : Bor X → Bor X → Ordering
  by_name x y = slice_cmp nat_cmp (label x.now) (label y.now)

  pub by_name-total : IsTotalOrder by_name
  by_name-total = on_total (λ x. label x.now) nat_list_cmp_total

  pub names_by_neighbours : (xs ys : List (Bor X)) (r : Bool) → IsPermutation xs ys → IsSorted by_name ys → IsAllAdjacentAnswer (λ x y b. b ≡ is_lt (by_name x y)) ys r → not r ≡ names_repeat (map label (map (λ x. x.now) xs))
  names_by_neighbours xs ys r moved up all =
      by_neighbours by_name-total xs ys moved up r all
      ∙ repeats_seen (λ x. label x.now) bytes_eq (eq_by_cmp by_name) (λ x y. is_eq-slice_cmp (label x.now) (label y.now)) xs
      ∙ ap names_repeat (map_twice label (λ x. x.now) xs)
