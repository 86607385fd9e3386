-- What a binary search by a key finds, and the parts of the rows about a place.
use Rattle.std.proofs.Common.{◌≡◌, ℕ, suc, zero, ◌+◌, ◌-◌, ◌<◌, ◌≤◌, Bool, true, List, [], ◌∷◌, length, get_or, take, drop, Result, Ok, Err, IfOk, IfErr, sym, subst, arith}
use Rattle.std.specs.List.{AllByRecursion}
use Rattle.std.specs.List.Sorted.{IsSearchInRange, IsBinarySearchResult}
use Rattle.std.specs.Ordering.{ordering_index}
use Rattle.std.specs.declared.cmp.Ordering.{Ordering}
use Rattle.std.proofs.lemmas.List.{get_or-take, get_or-drop, length-take-le, length-drop}
use Rattle.std.proofs.lemmas.List.Elements.{All-from_recursion, recursion_from_All}
use Rattle.profile_store.specs.Order.{AreInOrder, StandsAt, WouldStandAt}
use Rattle.profile_store.proofs.Keys.{IsOrder}

each_taken : {X : Type 0} (P : X → Type 0) (xs : List X) (place : ℕ) → place ≤ length xs → ((k : ℕ) (d : X) → k < place → P (get_or xs k d)) → AllByRecursion P (take place xs)
each_taken P xs place in_range holds = recursion_from_All P (take place xs) (λ k d below.
    let long : length (take place xs) ≡ place = length-take-le place xs in_range in
    let under : k < place = omega arith in
    subst P (sym (get_or-take place xs k d under)) (holds k d under))

each_left : {X : Type 0} (P : X → Type 0) (xs : List X) (place : ℕ) → ((k : ℕ) (d : X) → place ≤ k → k < length xs → P (get_or xs k d)) → AllByRecursion P (drop place xs)
each_left P xs place holds = recursion_from_All P (drop place xs) (λ k d below.
    let long : length (drop place xs) ≡ length xs - place = length-drop place xs in
    subst P (sym (get_or-drop place xs k d)) (holds (place + k) d (omega arith) (omega arith)))

module _ {X K : Type 0} (cmp : K → K → Ordering) (lower same : K → K → Bool) (order : IsOrder cmp lower same) (key : X → K) where
  rises : (xs : List X) → AreInOrder lower key xs → (at : K) (i j : ℕ) (d : X) → i ≤ j → j < length xs → ordering_index (cmp (key (get_or xs i d)) at) ≤ ordering_index (cmp (key (get_or xs j d)) at)
  rises [] are at i j d le in_range = absurd (omega arith)
  rises (x ∷ xs) are at zero zero d le in_range = omega arith
  rises (x ∷ xs) are at zero (suc j) d le in_range = order.rises (key x) (key (get_or xs j d)) at (All-from_recursion (λ y. lower (key x) (key y) ≡ true) xs are.0 j d (omega arith))
  rises (x ∷ xs) are at (suc i) zero d le in_range = absurd (omega arith)
  rises (x ∷ xs) are at (suc i) (suc j) d le in_range = rises xs are.1 at i j d (omega arith) (omega arith)

  pub searched : (xs : List X) → AreInOrder lower key xs → (at : K) (r : Result ℕ ℕ) → IsSearchInRange r (length xs) → IsBinarySearchResult (λ x. cmp (key x) at) xs r
      → record { found : IfOk r (StandsAt key xs at); absent : IfErr r (WouldStandAt lower key xs at) }
  searched xs are at (Ok place) in_range equal = record { found = record { in_range = in_range; key_is = λ d. order.equal (key (get_or xs place d)) at (equal d) }; absent = tt }
  searched xs are at (Err place) in_range parted =
      let point = parted (λ i j d. rises xs are at i j d) in
      record {
        found = tt;
        absent = record {
          in_range = in_range;
          below = each_taken (λ x. lower (key x) at ≡ true) xs place in_range (λ k d lt. order.less (key (get_or xs k d)) at (point.0 k d (omega arith) lt));
          above = each_left (λ x. lower at (key x) ≡ true) xs place (λ k d le lt. order.greater (key (get_or xs k d)) at (point.1 k d le lt));
        };
      }

  pub before_place : (xs : List X) (at : K) (place : ℕ) → AreInOrder lower key xs → StandsAt key xs at place → AllByRecursion (λ x. lower (key x) at ≡ true) (take place xs)
  before_place [] at place are stands = absurd (omega (arith, stands.in_range))
  before_place (x ∷ xs) at zero are stands = tt
  before_place (x ∷ xs) at (suc place) are stands =
      let below : place < length xs = omega (arith, stands.in_range) in
      let above : lower (key x) (key (get_or xs place x)) ≡ true = All-from_recursion (λ y. lower (key x) (key y) ≡ true) xs are.0 place x below in
      (subst (λ k. lower (key x) k ≡ true) (stands.key_is x) above, before_place xs at place are.1 (record { in_range = below; key_is = stands.key_is }))

  pub behind_place : (xs : List X) (at : K) (place : ℕ) → AreInOrder lower key xs → StandsAt key xs at place → AllByRecursion (λ x. lower at (key x) ≡ true) (drop (suc place) xs)
  behind_place [] at place are stands = absurd (omega (arith, stands.in_range))
  behind_place (x ∷ xs) at zero are stands = subst (λ k. AllByRecursion (λ y. lower k (key y) ≡ true) xs) (stands.key_is x) are.0
  behind_place (x ∷ xs) at (suc place) are stands = behind_place xs at place are.1 (record { in_range = omega (arith, stands.in_range); key_is = stands.key_is })
