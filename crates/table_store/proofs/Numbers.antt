-- Where an entry stands, by its sequence number and by its name.
use Rattle.std.proofs.Common.{◌≡◌, ℕ, suc, zero, ◌+◌, ◌<◌, Bool, true, false, cond, not, eqb, ltb, List, [], ◌∷◌, ◌++◌, length, get_or, take, drop, Option, Some, None, Ok, Err, refl, sym, ap, subst, ◌∙◌, arith}
use Rattle.std.specs.Prelude.{find}
use Rattle.std.specs.List.{AllByRecursion, position, position_or_len}
use Rattle.std.specs.List.Sorted.{IsSearchInRange, IsBinarySearchResult}
use Rattle.std.specs.Ordering.{nat_cmp}
use Rattle.std.proofs.lemmas.Bool.Decides.{nat_tests}
use Rattle.std.proofs.lemmas.List.{take-append-drop}
use Rattle.p4_types.specs.declared.table.Entry.{Entry}
use Rattle.p4_types.specs.declared.table.EntryName.{EntryName}
use Rattle.plane_spec.specs.Entries.{same_name, entry_named}
use Rattle.plane_spec.proofs.Lists.{All-weaken}
use Rattle.plane_spec.proofs.Names.{itself}
use Rattle.match_index.specs.Order.{IsBefore, AreInOrder}
use Rattle.match_index.proofs.Among.{of_each, found_among}
use Rattle.table_store.specs.Rising.{AreRising, StandsAt, WouldStandAt}
use Rattle.table_store.proofs.Lists.{each_append}
use Rattle.table_store.proofs.Places.{searched_by, before_place}

less : (a b : ℕ) → a < b → eqb a b ≡ false
less a b h = grind (arith, nat_tests)

more : (a b : ℕ) → b < a → eqb a b ≡ false
more a b h = grind (arith, nat_tests)

at_place : (n place len : ℕ) → n ≡ place → place < len → cond (ltb n len) (Some n) None ≡ Some place
at_place n place len same in_range = grind (arith, nat_tests)

at_no_place : (n len : ℕ) → n ≡ len → cond (ltb n len) (Some n) None ≡ None
at_no_place n len same = grind (arith, nat_tests)

-- a step of the walk to the first place that passes
stops : (b : Bool) (m : ℕ) → b ≡ true → cond (not b) (1 + m) 0 ≡ 0
stops true m h = refl
stops false m h = cc

goes_on : (b : Bool) (m n : ℕ) → b ≡ false → m ≡ n → cond (not b) (1 + m) 0 ≡ suc n
goes_on true m n h same = cc
goes_on false m n h same = omega (arith, same)

module _ {X : Type 0} (p : X → Bool) where
  first_at : (xs : List X) (place : ℕ) (d : X) → place < length xs → p (get_or xs place d) ≡ true → AllByRecursion (λ x. p x ≡ false) (take place xs) → position_or_len p xs ≡ place
  first_at [] place d in_range passes fail = absurd (omega arith)
  first_at (x ∷ xs) zero d in_range passes fail = stops (p x) (position_or_len p xs) passes
  first_at (x ∷ xs) (suc place) d in_range passes fail = goes_on (p x) (position_or_len p xs) place fail.0 (first_at xs place d (omega arith) passes fail.1)

  no_first : (xs : List X) → AllByRecursion (λ x. p x ≡ false) xs → position_or_len p xs ≡ length xs
  no_first [] fail = refl
  no_first (x ∷ xs) fail = goes_on (p x) (position_or_len p xs) (length xs) fail.0 (no_first xs fail.1)

  position_at : (xs : List X) (place : ℕ) (d : X) → place < length xs → p (get_or xs place d) ≡ true → AllByRecursion (λ x. p x ≡ false) (take place xs) → position p xs ≡ Some place
  position_at xs place d in_range passes fail = at_place (position_or_len p xs) place (length xs) (first_at xs place d in_range passes fail) in_range

  position_none : (xs : List X) → AllByRecursion (λ x. p x ≡ false) xs → position p xs ≡ None
  position_none xs fail = at_no_place (position_or_len p xs) (length xs) (no_first xs fail)

  passed_by : (b : Bool) (x : X) (found : Option X) → cond b (Some x) found ≡ None → (b ≡ false) × (found ≡ None)
  passed_by true x found h = cc
  passed_by false x found h = (refl, h)

  none_passes : (xs : List X) → find p xs ≡ None → AllByRecursion (λ x. p x ≡ false) xs
  none_passes [] missed = tt
  none_passes (x ∷ xs) missed = let k = passed_by (p x) x (find p xs) missed in (k.0, none_passes xs k.1)

-- ---- by the sequence number
numbers_rise : (xs : List Entry) → AreInOrder xs → AreRising (λ e. e.seq) xs
numbers_rise [] order = tt
numbers_rise (x ∷ xs) order = (All-weaken (IsBefore x) (λ e. x.seq < e.seq) (λ e before. before.0) xs order.0, numbers_rise xs order.1)

stands : (xs : List Entry) (seq place : ℕ) (d : Entry) → AreInOrder xs → StandsAt (λ e. e.seq) xs seq place → position (λ e. eqb e.seq seq) xs ≡ Some place
stands xs seq place d order at =
    position_at (λ e. eqb e.seq seq) xs place d at.in_range (subst (λ (n : ℕ). eqb n seq ≡ true) (sym (at.number_is d)) (itself seq))
    (All-weaken (λ (e : Entry). e.seq < seq) (λ e. eqb e.seq seq ≡ false) (λ e h. less e.seq seq h) (take place xs) (before_place (λ (e : Entry). e.seq) xs seq place (numbers_rise xs order) at))

pub number_at : (xs : List Entry) (seq place : ℕ) → AreInOrder xs → IsSearchInRange (Ok place) (length xs) → IsBinarySearchResult (λ e. nat_cmp e.seq seq) xs (Ok place) → Some place ≡ position (λ e. eqb e.seq seq) xs
number_at [] seq place order in_range result = absurd (omega (arith, in_range))
number_at (x ∷ xs) seq place order in_range result =
    sym (stands (x ∷ xs) seq place x order (searched_by (λ (e : Entry). e.seq) (x ∷ xs) (numbers_rise (x ∷ xs) order) seq (Ok place) in_range result).found)

pub number_nowhere : (xs : List Entry) (seq place : ℕ) → AreInOrder xs → IsSearchInRange (Err place) (length xs) → IsBinarySearchResult (λ e. nat_cmp e.seq seq) xs (Err place) → None ≡ position (λ e. eqb e.seq seq) xs
number_nowhere xs seq place order in_range result =
    let gap : WouldStandAt (λ e. e.seq) xs seq place = (searched_by (λ (e : Entry). e.seq) xs (numbers_rise xs order) seq (Err place) in_range result).absent in
    let none : AllByRecursion (λ e. eqb e.seq seq ≡ false) (take place xs ++ drop place xs) =
    each_append (λ (e : Entry). eqb e.seq seq ≡ false) (take place xs) (drop place xs)
    (All-weaken (λ (e : Entry). e.seq < seq) (λ e. eqb e.seq seq ≡ false) (λ e h. less e.seq seq h) (take place xs) gap.below)
    (All-weaken (λ (e : Entry). seq < e.seq) (λ e. eqb e.seq seq ≡ false) (λ e h. more e.seq seq h) (drop place xs) gap.above) in
    sym (position_none (λ e. eqb e.seq seq) xs (subst (AllByRecursion (λ e. eqb e.seq seq ≡ false)) (take-append-drop place xs) none))

-- ---- by the name
same_here : (name : EntryName) (x e : Entry) (xs : List Entry) (b : Bool) → same_name name x.name ≡ b → AllByRecursion (IsBefore x) xs → cond b (Some x) (find (λ y. same_name name y.name) xs) ≡ Some e
    → (find (λ y. same_name name y.name) xs ≡ Some e → position_or_len (λ y. eqb y.seq e.seq) xs ≡ position_or_len (λ y. same_name name y.name) xs)
    → position_or_len (λ y. eqb y.seq e.seq) (x ∷ xs) ≡ position_or_len (λ y. same_name name y.name) (x ∷ xs)
same_here name x e xs true h before found rest =
    let same : x ≡ e = cc in
    let number : eqb x.seq e.seq ≡ true = subst (λ (y : Entry). eqb x.seq y.seq ≡ true) same (itself x.seq) in
    stops (eqb x.seq e.seq) (position_or_len (λ y. eqb y.seq e.seq) xs) number ∙ sym (stops (same_name name x.name) (position_or_len (λ y. same_name name y.name) xs) h)
same_here name x e xs false h before found rest =
    let later = of_each (IsBefore x) xs e before (found_among (λ (y : Entry). same_name name y.name) xs e found).0 in
    let number : eqb x.seq e.seq ≡ false = less x.seq e.seq later.0 in
    let there : ℕ = position_or_len (λ y. same_name name y.name) xs in
    goes_on (eqb x.seq e.seq) (position_or_len (λ y. eqb y.seq e.seq) xs) there number (rest found) ∙ sym (goes_on (same_name name x.name) there there h refl)

same_place : (name : EntryName) (e : Entry) (xs : List Entry) → AreInOrder xs → find (λ y. same_name name y.name) xs ≡ Some e → position_or_len (λ y. eqb y.seq e.seq) xs ≡ position_or_len (λ y. same_name name y.name) xs
same_place name e [] order found = cc
same_place name e (x ∷ xs) order found = same_here name x e xs (same_name name x.name) refl order.0 found (same_place name e xs order.1)

-- the entry of a name stands where its sequence number does
pub by_number : (name : EntryName) (e : Entry) (xs : List Entry) → AreInOrder xs → Some e ≡ entry_named name xs → position (λ y. eqb y.seq e.seq) xs ≡ position (λ y. same_name name y.name) xs
unfolding entry_named
by_number name e xs order found = ap (λ (n : ℕ). cond (ltb n (length xs)) (Some n) None) (same_place name e xs order (sym found))

pub by_no_name : (name : EntryName) (xs : List Entry) → None ≡ entry_named name xs → None ≡ position (λ y. same_name name y.name) xs
unfolding entry_named
by_no_name name xs missed = sym (position_none (λ (y : Entry). same_name name y.name) xs (none_passes (λ (y : Entry). same_name name y.name) xs (sym missed)))
