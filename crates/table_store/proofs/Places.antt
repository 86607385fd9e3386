-- What a binary search by a number finds.
use Rattle.std.proofs.Common.{◌≡◌, ℕ, suc, zero, ◌+◌, ◌-◌, ◌<◌, ◌≤◌, List, [], ◌∷◌, length, get_or, take, drop, Result, Ok, Err, IfOk, IfErr, sym, subst, arith}
use Rattle.std.specs.List.{AllByRecursion}
use Rattle.std.specs.List.Sorted.{IsSearchInRange, IsBinarySearchResult, IsNonDecreasingBy}
use Rattle.std.specs.Ordering.{nat_cmp, ordering_index}
use Rattle.std.proofs.lemmas.Bool.Decides.{nat_tests}
use Rattle.std.proofs.lemmas.Cmp.{ranked}
use Rattle.std.proofs.lemmas.List.{get_or-take, get_or-drop, length-take-le, length-drop}
use Rattle.std.proofs.lemmas.List.Elements.{All-from_recursion, recursion_from_All}
use Rattle.table_store.specs.declared.groups.Group.{Group}
use Rattle.table_store.specs.Groups.{AreGroups, IsAt, IsGap}
use Rattle.table_store.specs.Rising.{AreRising, StandsAt, WouldStandAt}

index_rises : (a b t : ℕ) → a ≤ b → ordering_index (nat_cmp a t) ≤ ordering_index (nat_cmp b t)
index_rises a b t le = grind (arith, nat_tests)

module _ {X : Type 0} (key : X → ℕ) where
  rises : (xs : List X) → AreRising key xs → (i j : ℕ) (d : X) → i ≤ j → j < length xs → key (get_or xs i d) ≤ key (get_or xs j d)
  rises [] are i j d le in_range = absurd (omega arith)
  rises (x ∷ xs) are zero zero d le in_range = omega arith
  rises (x ∷ xs) are zero (suc j) d le in_range = let above : key x < key (get_or xs j d) = All-from_recursion (λ y. key x < key y) xs are.0 j d (omega arith) in omega arith
  rises (x ∷ xs) are (suc i) zero d le in_range = absurd (omega arith)
  rises (x ∷ xs) are (suc i) (suc j) d le in_range = rises xs are.1 i j d (omega arith) (omega arith)

  comparisons_rise : (xs : List X) → AreRising key xs → (number : ℕ) → IsNonDecreasingBy (λ x. ordering_index (nat_cmp (key x) number)) xs
  comparisons_rise xs are number i j d le in_range = index_rises (key (get_or xs i d)) (key (get_or xs j d)) number (rises xs are i j d le in_range)

  each_taken : (P : X → Type 0) (xs : List X) (place : ℕ) → place ≤ length xs → ((k : ℕ) (d : X) → k < place → P (get_or xs k d)) → AllByRecursion P (take place xs)
  each_taken P xs place in_range holds = recursion_from_All P (take place xs) (λ k d below.
      let long : length (take place xs) ≡ place = length-take-le place xs in_range in
      let under : k < place = omega arith in
      subst P (sym (get_or-take place xs k d under)) (holds k d under))

  each_left : (P : X → Type 0) (xs : List X) (place : ℕ) → ((k : ℕ) (d : X) → place ≤ k → k < length xs → P (get_or xs k d)) → AllByRecursion P (drop place xs)
  each_left P xs place holds = recursion_from_All P (drop place xs) (λ k d below.
      let long : length (drop place xs) ≡ length xs - place = length-drop place xs in
      subst P (sym (get_or-drop place xs k d)) (holds (place + k) d (omega arith) (omega arith)))

  pub searched_by : (xs : List X) → AreRising key xs → (number : ℕ) (r : Result ℕ ℕ) → IsSearchInRange r (length xs) → IsBinarySearchResult (λ x. nat_cmp (key x) number) xs r
      → record { found : IfOk r (StandsAt key xs number); absent : IfErr r (WouldStandAt key xs number) }
  searched_by xs are number (Ok place) in_range equal = record { found = record { in_range = in_range; number_is = λ d. ranked _ number _ (sym (equal d)) }; absent = tt }
  searched_by xs are number (Err place) in_range parted =
      let point = parted (comparisons_rise xs are number) in
      record {
        found = tt;
        absent = record {
          in_range = in_range;
          below = each_taken (λ x. key x < number) xs place in_range (λ k d lt. ranked _ number _ (sym (point.0 k d (omega arith) lt)));
          above = each_left (λ x. number < key x) xs place (λ k d le lt. ranked _ number _ (sym (point.1 k d le lt)));
        };
      }

tables_rise : (groups : List Group) → AreGroups groups → AreRising (λ g. g.table) groups
tables_rise [] are = tt
tables_rise (g ∷ groups) are = (are.1, tables_rise groups are.2)

group_at : (groups : List Group) (table : ℕ) (r : Result ℕ ℕ) → IfOk r (StandsAt (λ g. g.table) groups table) → IfOk r (IsAt groups table)
group_at groups table (Ok place) h = record { in_range = h.in_range; table_is = h.number_is }
group_at groups table (Err place) h = tt

group_gap : (groups : List Group) (table : ℕ) (r : Result ℕ ℕ) → IfErr r (WouldStandAt (λ g. g.table) groups table) → IfErr r (IsGap groups table)
group_gap groups table (Ok place) h = tt
group_gap groups table (Err place) h = record { in_range = h.in_range; below = h.below; above = h.above }

pub searched : (groups : List Group) → AreGroups groups → (table : ℕ) (r : Result ℕ ℕ) → IsSearchInRange r (length groups) → IsBinarySearchResult (λ g. nat_cmp g.table table) groups r → record { found : IfOk r (IsAt groups table); absent : IfErr r (IsGap groups table) }
searched groups are table r in_range result =
    let found = searched_by (λ g. g.table) groups (tables_rise groups are) table r in_range result in
    record { found = group_at groups table r found.found; absent = group_gap groups table r found.absent }

-- what stands before and behind the place
module _ {X : Type 0} (key : X → ℕ) where
  pub before_place : (xs : List X) (number place : ℕ) → AreRising key xs → StandsAt key xs number place → AllByRecursion (λ x. key x < number) (take place xs)
  before_place [] number place rising at = absurd (omega (arith, at.in_range))
  before_place (x ∷ xs) number zero rising at = tt
  before_place (x ∷ xs) number (suc place) rising at =
      let below : place < length xs = omega (arith, at.in_range) in
      let above : key x < key (get_or xs place x) = All-from_recursion (λ y. key x < key y) xs rising.0 place x below in
      (subst (λ n. key x < n) (at.number_is x) above, before_place xs number place rising.1 (record { in_range = below; number_is = at.number_is }))

  pub behind_place : (xs : List X) (number place : ℕ) → AreRising key xs → StandsAt key xs number place → AllByRecursion (λ x. number < key x) (drop (suc place) xs)
  behind_place [] number place rising at = absurd (omega (arith, at.in_range))
  behind_place (x ∷ xs) number zero rising at = subst (λ n. AllByRecursion (λ y. n < key y) xs) (at.number_is x) rising.0
  behind_place (x ∷ xs) number (suc place) rising at = behind_place xs number place rising.1 (record { in_range = omega (arith, at.in_range); number_is = at.number_is })
