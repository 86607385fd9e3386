-- A search by name among places in the order of their names.
use Rattle.std.proofs.Common.{◌≡◌, ℕ, zero, suc, ◌+◌, ◌<◌, ◌≤◌, ◌∙◌, refl, sym, ap, subst, Bool, true, false, cond, nat_lt, ltb, List, [], ◌∷◌, ◌++◌, length, get_or, Option, Some, None, Ordering, Less, Equal, Greater, is_eq, is_lt, arith}
use Rattle.std.specs.Cmp.{IsTotalOrder}
use Rattle.std.specs.Cmp.Lexicographic.{slice_cmp}
use Rattle.std.specs.List.{All, Contains, position_or_len, range_with_len, slice_get}
use Rattle.std.specs.List.Sorted.{IsNonDecreasingBy, IsPartitionedBy}
use Rattle.std.specs.Ordering.{nat_cmp, ordering_index, ordering_then}
use Rattle.std.specs.Str.{bytes_eq}
use Rattle.std.proofs.lemmas.Bool.{true≢false}
use Rattle.std.proofs.lemmas.Bool.Decides.{nat_tests}
use Rattle.std.proofs.lemmas.Cmp.{nat_cmp_total, nat_list_cmp_total, on_total, then_total, tied_itself}
use Rattle.std.proofs.lemmas.List.FromFn.{length-range_with_len, get_or-range_with_len}
use Rattle.std.proofs.lemmas.List.Sorted.{All-permutation, Contains-permutation, IsPartitionedBy-ltb, ranks_by, searchable_from_sorted, sorted_far}
use Rattle.std.proofs.lemmas.List.Sums.{position_or_len_is}
use Rattle.std.proofs.lemmas.Map.Text.{is_eq-slice_cmp}
use Rattle.std.proofs.lemmas.Option.{slice_get-get_or, slice_get_within, get_or_from_slice_get}
use Rattle.std.proofs.lemmas.Slice.Eq.{bytes_eq-Decides}
use Rattle.name_index.specs.Names.{place_of}
use Rattle.name_index.specs.Places.{name_at, by_name, is_below, ArePlaces, IsStart}

-- the numbers from one on, with one more
last : (a n j : ℕ) → a + n ≡ j → range_with_len a (suc n) ≡ range_with_len a n ++ j ∷ []
last a zero j e = let same : a ≡ j = omega arith in ap (λ k. k ∷ []) same
last a (suc n) j e = ap (λ l. a ∷ l) (last (a + 1) n j (omega arith))

pub range_more : (n : ℕ) → range_with_len 0 n ++ n ∷ [] ≡ range_with_len 0 (n + 1)
range_more n = let on : n + 1 ≡ suc n = omega arith in sym (ap (range_with_len 0) on ∙ last 0 n n (omega arith))

range_below : (n : ℕ) → All (λ p. p < n) (range_with_len 0 n)
range_below n k d within = let inside : k < n = omega (arith, length-range_with_len 0 n) in omega (arith, get_or-range_with_len 0 n k d inside)

range_has : (n k : ℕ) → k < n → Contains (range_with_len 0 n) k
range_has n k within = (k, omega (arith, length-range_with_len 0 n), get_or-range_with_len 0 n k k within ∙ omega arith)

first_not_below : (o p : Ordering) → is_lt (ordering_then o p) ≡ false → is_lt o ≡ false
first_not_below Less p e = e
first_not_below Equal p e = refl
first_not_below Greater p e = refl

below_index : (o : Ordering) → is_lt o ≡ ltb (ordering_index o) 1
below_index Less = refl
below_index Equal = refl
below_index Greater = refl

level : (o : Ordering) → is_lt o ≡ false → ordering_index o ≤ 1 → is_eq o ≡ true
level Less e le = absurd (true≢false e)
level Equal e le = refl
level Greater e le = absurd (omega arith)

tied_below : (o p : Ordering) → o ≡ Equal → p ≡ Less → is_lt (ordering_then o p) ≡ true
tied_below Less p e f = refl
tied_below Equal p e f = ap is_lt f
tied_below Greater p e f = absurd (let c : ⊥ = cc in c)

less : (k n : ℕ) → k < n → nat_cmp k n ≡ Less
less k n l = grind (arith, nat_tests)

not_true : (b : Bool) → (b ≡ true → ⊥) → b ≡ false
not_true true h = absurd (h refl)
not_true false h = refl

some_place : (n l : ℕ) → n < l → cond (nat_lt n l) (Some n) None ≡ Some n
some_place n l within = grind (arith, nat_tests)

no_place : (n l : ℕ) → n ≡ l → cond (nat_lt n l) (Some n) None ≡ None
no_place n l e = grind (arith, nat_tests)

clash : (o : Option ℕ) (x : ℕ) → o ≡ Some x → o ≡ None → ⊥
clash o x e f = cc

module _ {X : Type 0} (label : X → List ℕ) where
  name_within : (xs : List X) (k : ℕ) (d : X) → k < length xs → name_at label xs k ≡ label (get_or xs k d)
  name_within xs k d within = rw (slice_get-get_or xs k d within) refl

  first_named : (q : List ℕ) (xs : List X) (i : ℕ) → i ≤ length xs → ((k : ℕ) → k < i → bytes_eq (name_at label xs k) q ≡ false)
      → (i < length xs → bytes_eq (name_at label xs i) q ≡ true) → position_or_len (λ x. bytes_eq (label x) q) xs ≡ i
  first_named q [] i low before here = omega arith
  first_named q (x ∷ xs) i low before here =
      position_or_len_is (λ y. bytes_eq (label y) q) (x ∷ xs) i x low
      (λ k l. rw (name_within (x ∷ xs) k x (omega arith)) at (before k l))
      (λ within. rw (name_within (x ∷ xs) i x within) at (here within))

  module _ (objects : List X) where
    pub by_name-total : IsTotalOrder (by_name label objects)
    by_name-total = then_total (on_total (name_at label objects) nat_list_cmp_total) nat_cmp_total

    module _ (places : List ℕ) (ordered : ArePlaces label objects places) (q : List ℕ) where
      abbrev rank : ℕ → ℕ
      rank place = ordering_index (slice_cmp nat_cmp (name_at label objects place) q)

      rise : IsNonDecreasingBy rank places
      rise = searchable_from_sorted nat_list_cmp_total (name_at label objects) places q (λ k d low within. first_not_below _ _ (ordered.sorted k d low within))

      pub parted : IsPartitionedBy (is_below label objects q) places
      parted i j d le within below = below_index _ ∙ IsPartitionedBy-ltb rank places 1 rise i j d le within (sym (below_index _) ∙ below)

      inside : All (λ p. p < length objects) places
      inside = All-permutation (λ p. p < length objects) _ _ ordered.all (range_below (length objects))

      itself : slice_cmp nat_cmp q q ≡ Equal
      itself = tied_itself nat_list_cmp_total q

      not_below : (place : ℕ) → name_at label objects place ≡ q → is_below label objects q place ≡ false
      not_below place e = rw e (ap is_lt itself)

      after_start : (i j : ℕ) (d : ℕ) → IsStart label objects places q i → is_below label objects q (get_or places j d) ≡ false → (b : Bool) → nat_lt j i ≡ b → i ≤ j
      after_start i j d start e true l = absurd (true≢false (sym (start.0 j d (omega arith) (grind (arith, nat_tests))) ∙ e))
      after_start i j d start e false l = grind (arith, nat_tests)

      -- the places of objects of the name stand behind the start
      stands : (i k : ℕ) → IsStart label objects places q i → k < length objects → name_at label objects k ≡ q → (j : ℕ) × (i ≤ j) × (j < length places) × (get_or places j k ≡ k)
      stands i k start within named =
          let (j, inside, is) = Contains-permutation _ _ k ordered.all (range_has (length objects) k within) in
          (j, after_start i j k start (ap (is_below label objects q) is ∙ not_below k named) _ refl, inside, is)

      named_by : (place : ℕ) → bytes_eq (name_at label objects place) q ≡ true → name_at label objects place ≡ q
      named_by place e = (bytes_eq-Decides (name_at label objects place) q).0 e

      -- where the search ends behind all places
      past : (i k : ℕ) → IsStart label objects places q i → slice_get places i ≡ None → k < length objects → bytes_eq (name_at label objects k) q ≡ false
      past i k start none within =
          not_true _ (λ e. let (j, low, high, is) = stands i k start within (named_by k e) in clash _ _ (slice_get-get_or places i k (omega arith)) none)

      -- where it ends at a place of another name
      other : (i p k : ℕ) → IsStart label objects places q i → slice_get places i ≡ Some p → bytes_eq (name_at label objects p) q ≡ false → k < length objects → bytes_eq (name_at label objects k) q ≡ false
      other i p k start at_i apart within =
          not_true _ (λ e.
          let (j, low, high, is) = stands i k start within (named_by k e) in
          let is_p : get_or places i k ≡ p = get_or_from_slice_get places i p k at_i in
          let up : rank p ≤ rank k = subst (λ x. rank x ≤ rank k) is_p (subst (λ x. rank (get_or places i k) ≤ rank x) is (rise i j k low high)) in
          let one : rank k ≡ 1 = rw (named_by k e) (ap ordering_index itself) in
          let tied = level _ (ap (is_below label objects q) (sym is_p) ∙ start.1 i k (omega arith) (omega arith)) (omega (arith, up, one)) in
          true≢false (sym tied ∙ is_eq-slice_cmp (name_at label objects p) q ∙ apart))

      -- where it ends at a place of the name, the places before it have other names
      first : (i p k : ℕ) → IsStart label objects places q i → slice_get places i ≡ Some p → bytes_eq (name_at label objects p) q ≡ true → p < length objects → k < p → bytes_eq (name_at label objects k) q ≡ false
      first i p k start at_i named within before =
          not_true _ (λ e.
          let (j, low, high, is) = stands i k start (omega arith) (named_by k e) in
          let is_p : get_or places i k ≡ p = get_or_from_slice_get places i p k at_i in
          let far = sorted_far _ (ranks_by by_name-total (λ x. x)) places ordered.sorted i j k low high in
          let same : slice_cmp nat_cmp (name_at label objects k) (name_at label objects p) ≡ Equal = rw (named_by k e, named_by p named) itself in
          true≢false (sym (tied_below _ _ same (less k p before)) ∙ ap (λ x. is_lt (by_name label objects x p)) (sym is) ∙ ap (λ x. is_lt (by_name label objects (get_or places j k) x)) (sym is_p) ∙ far))

      pub place_inside : (i p : ℕ) → slice_get places i ≡ Some p → p < length objects
      place_inside i p at_i = rw (get_or_from_slice_get places i p p at_i) at (inside i p (slice_get_within places i p at_i))

      pub found : (i p : ℕ) → IsStart label objects places q i → slice_get places i ≡ Some p → bytes_eq (name_at label objects p) q ≡ true → Some p ≡ place_of label q objects
      found i p start at_i named =
          let within = place_inside i p at_i in
          let is = first_named q objects p (omega (arith, within)) (λ k before. first i p k start at_i named within before) (λ _. named) in
          sym (rw is (some_place p (length objects) within))

      none_named : ((k : ℕ) → k < length objects → bytes_eq (name_at label objects k) q ≡ false) → None ≡ place_of label q objects
      none_named apart = sym (no_place _ _ (first_named q objects (length objects) (omega arith) apart (λ beyond. absurd (omega (arith, beyond)))))

      pub absent_other : (i p : ℕ) → IsStart label objects places q i → slice_get places i ≡ Some p → bytes_eq (name_at label objects p) q ≡ false → None ≡ place_of label q objects
      absent_other i p start at_i apart = none_named (λ k within. other i p k start at_i apart within)

      pub absent_past : (i : ℕ) → IsStart label objects places q i → slice_get places i ≡ None → None ≡ place_of label q objects
      absent_past i start none = none_named (λ k within. past i k start none within)
