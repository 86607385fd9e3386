-- What edits at a place make of the rows: what is found and counted of them, their order, and what they hold.
use Rattle.std.proofs.Common.{◌≡◌, ℕ, suc, zero, ◌+◌, ◌<◌, Bool, true, false, cond, not, List, [], ◌∷◌, ◌++◌, length, get_or, set, take, drop, Option, Some, None, is_some, refl, sym, ap, subst, ◌∙◌, arith}
use Rattle.std.specs.Prelude.{find, filter, map}
use Rattle.std.specs.List.{AllByRecursion, insert, remove}
use Rattle.std.specs.Option.{option_map}
use Rattle.std.specs.declared.cmp.Ordering.{Ordering}
use Rattle.std.proofs.lemmas.Bool.{false≢true}
use Rattle.std.proofs.lemmas.List.{map-append, append-nil, set_split, set-get_or, take-append-drop}
use Rattle.std.proofs.lemmas.List.Elements.{filter-append}
use Rattle.plane_spec.proofs.Lists.{All-weaken}
use Rattle.profile_store.specs.Order.{AreInOrder, StandsAt, WouldStandAt}
use Rattle.profile_store.proofs.Keys.{IsOrder}
use Rattle.profile_store.proofs.Places.{before_place, behind_place}
use Rattle.profile_store.proofs.Finding.{each_append, Splits, before_differ, after_differ, found_own, balanced, with_one, without_one}

pub nothing : (b : Bool) → cond b 0 0 ≡ zero
nothing true = refl
nothing false = refl

pub at_place : {X : Type 0} (xs : List X) (place : ℕ) (x : X) → place < length xs → x ≡ get_or xs place x → xs ≡ take place xs ++ x ∷ drop (suc place) xs
at_place xs place x in_range read = sym (ap (set xs place) read ∙ set-get_or xs place x) ∙ set_split xs place x in_range

pub find_map : {X Y : Type 0} (p : Y → Bool) (f : X → Y) (xs : List X) → find p (map f xs) ≡ option_map f (find (λ x. p (f x)) xs)
find_map p f [] = refl
find_map p f (x ∷ xs) = here (p (f x)) (find_map p f xs)
  where
    here : (b : Bool) → find p (map f xs) ≡ option_map f (find (λ y. p (f y)) xs) → cond b (Some (f x)) (find p (map f xs)) ≡ option_map f (cond b (Some x) (find (λ y. p (f y)) xs))
    here true h = refl
    here false h = h

filter_each : {X Y : Type 0} (p : Y → Bool) (f : X → Y) (xs : List X) → AllByRecursion (λ x. p (f x) ≡ true) xs → filter p (map f xs) ≡ map f xs
filter_each p f [] h = refl
filter_each p f (x ∷ xs) h = rw h.0 (ap (λ ys. f x ∷ ys) (filter_each p f xs h.1))

filter_none : {X Y : Type 0} (p : Y → Bool) (f : X → Y) (xs : List X) → AllByRecursion (λ x. p (f x) ≡ false) xs → filter p (map f xs) ≡ []
filter_none p f [] h = refl
filter_none p f (x ∷ xs) h = rw h.0 (filter_none p f xs h.1)

map_kept : {X Y : Type 0} (p : Y → Bool) (y : Y) (f : X → Y) (xs : List X) → AllByRecursion (λ x. p (f x) ≡ false) xs → map (λ o. cond (p o) y o) (map f xs) ≡ map f xs
map_kept p y f [] h = refl
map_kept p y f (x ∷ xs) h = rw h.0 (ap (λ ys. f x ∷ ys) (map_kept p y f xs h.1))

opposite : (b : Bool) → b ≡ true → not b ≡ false
opposite b h = rw h refl

opposite_too : (b : Bool) → b ≡ false → not b ≡ true
opposite_too b h = rw h refl

joined : {Y : Type 0} (a b c d : List Y) → a ≡ b → c ≡ d → a ++ c ≡ b ++ d
joined a b c d g h = cc

module _ {X K : Type 0} (cmp : K → K → Ordering) (lower same : K → K → Bool) (order : IsOrder cmp lower same) (key : X → K) where
  splits_at : (xs : List X) (at : K) (place : ℕ) → AreInOrder lower key xs → StandsAt key xs at place → Splits lower key at (take place xs) (drop (suc place) xs)
  splits_at xs at place are stands = record { below = before_place cmp lower same order key xs at place are stands; above = behind_place cmp lower same order key xs at place are stands }

  splits_gap : (xs : List X) (at : K) (place : ℕ) → WouldStandAt lower key xs at place → Splits lower key at (take place xs) (drop place xs)
  splits_gap xs at place gap = record { below = gap.below; above = gap.above }

  pub own_key : (xs : List X) (at : K) (place : ℕ) → StandsAt key xs at place → (x : X) → x ≡ get_or xs place x → key x ≡ at
  own_key xs at place stands x read = ap key read ∙ stands.key_is x

  pub find_at : (xs : List X) (at : K) (place : ℕ) → AreInOrder lower key xs → StandsAt key xs at place → (x : X) → x ≡ get_or xs place x → find (λ y. same at (key y)) xs ≡ Some x
  find_at xs at place are stands x read =
      ap (find (λ y. same at (key y))) (at_place xs place x stands.in_range read)
      ∙ found_own cmp lower same order key at (take place xs) (drop (suc place) xs) (splits_at xs at place are stands) (Some x) (own_key xs at place stands x read)

  pub find_gap : (xs : List X) (at : K) (place : ℕ) → WouldStandAt lower key xs at place → find (λ y. same at (key y)) xs ≡ None
  find_gap xs at place gap =
      ap (find (λ y. same at (key y))) (sym (take-append-drop place xs))
      ∙ found_own cmp lower same order key at (take place xs) (drop place xs) (splits_gap xs at place gap) None tt

  -- what is counted of the rows that are found
  pub set_balanced : (count : Option X → ℕ) (xs : List X) (at : K) (place : ℕ) → AreInOrder lower key xs → StandsAt key xs at place → (x y : X) → x ≡ get_or xs place x → key y ≡ at
      → (u v : ℕ) → count (Some y) + u ≡ count (Some x) + v → (to : K)
      → count (find (λ z. same to (key z)) (set xs place y)) + cond (same to at) u 0 ≡ count (find (λ z. same to (key z)) xs) + cond (same to at) v 0
  set_balanced count xs at place are stands x y read is u v h to =
      let p : X → Bool = λ z. same to (key z) in
      let new : count (find p (set xs place y)) ≡ count (find p (take place xs ++ y ∷ drop (suc place) xs)) = ap (λ zs. count (find p zs)) (set_split xs place y stands.in_range) in
      let old : count (find p xs) ≡ count (find p (take place xs ++ x ∷ drop (suc place) xs)) = ap (λ zs. count (find p zs)) (at_place xs place x stands.in_range read) in
      let both = balanced cmp lower same order key count at to (take place xs) (drop (suc place) xs) (splits_at xs at place are stands) (Some x) (Some y) (own_key xs at place stands x read) is u v h in
      omega (arith, new, old, both)

  pub remove_balanced : (count : Option X → ℕ) (xs : List X) (at : K) (place : ℕ) → AreInOrder lower key xs → StandsAt key xs at place → (x : X) → x ≡ get_or xs place x
      → (u v : ℕ) → count None + u ≡ count (Some x) + v → (to : K)
      → count (find (λ z. same to (key z)) (remove xs place)) + cond (same to at) u 0 ≡ count (find (λ z. same to (key z)) xs) + cond (same to at) v 0
  remove_balanced count xs at place are stands x read u v h to =
      let p : X → Bool = λ z. same to (key z) in
      let old : count (find p xs) ≡ count (find p (take place xs ++ x ∷ drop (suc place) xs)) = ap (λ zs. count (find p zs)) (at_place xs place x stands.in_range read) in
      let both = balanced cmp lower same order key count at to (take place xs) (drop (suc place) xs) (splits_at xs at place are stands) (Some x) None (own_key xs at place stands x read) tt u v h in
      omega (arith, old, both)

  pub insert_balanced : (count : Option X → ℕ) (xs : List X) (at : K) (place : ℕ) → WouldStandAt lower key xs at place → (y : X) → key y ≡ at
      → (u v : ℕ) → count (Some y) + u ≡ count None + v → (to : K)
      → count (find (λ z. same to (key z)) (insert xs place y)) + cond (same to at) u 0 ≡ count (find (λ z. same to (key z)) xs) + cond (same to at) v 0
  insert_balanced count xs at place gap y is u v h to =
      let p : X → Bool = λ z. same to (key z) in
      let old : count (find p xs) ≡ count (find p (take place xs ++ drop place xs)) = ap (λ zs. count (find p zs)) (sym (take-append-drop place xs)) in
      let both = balanced cmp lower same order key count at to (take place xs) (drop place xs) (splits_gap xs at place gap) None (Some y) tt is u v h in
      omega (arith, old, both)

  -- the rows stay in order
  without : (xs : List X) (at : K) (place : ℕ) → AreInOrder lower key xs → StandsAt key xs at place → AreInOrder lower key (take place xs ++ drop (suc place) xs)
  without [] at place are stands = absurd (omega (arith, stands.in_range))
  without (first ∷ others) at place are stands =
      let xs : List X = first ∷ others in
      let own : X = get_or xs place first in
      let is : xs ≡ take place xs ++ own ∷ drop (suc place) xs = sym (set-get_or xs place first) ∙ set_split xs place own stands.in_range in
      without_one cmp lower same order key own (take place xs) (drop (suc place) xs) (subst (AreInOrder lower key) is are)

  pub set_in_order : (xs : List X) (at : K) (place : ℕ) → AreInOrder lower key xs → StandsAt key xs at place → (y : X) → key y ≡ at → AreInOrder lower key (set xs place y)
  set_in_order xs at place are stands y is =
      subst (AreInOrder lower key) (sym (set_split xs place y stands.in_range))
      (with_one cmp lower same order key at y is (take place xs) (drop (suc place) xs) (splits_at xs at place are stands) (without xs at place are stands))

  pub remove_in_order : (xs : List X) (at : K) (place : ℕ) → AreInOrder lower key xs → StandsAt key xs at place → AreInOrder lower key (remove xs place)
  remove_in_order xs at place are stands = without xs at place are stands

  pub insert_in_order : (xs : List X) (at : K) (place : ℕ) → AreInOrder lower key xs → WouldStandAt lower key xs at place → (y : X) → key y ≡ at → AreInOrder lower key (insert xs place y)
  insert_in_order xs at place are gap y is =
      with_one cmp lower same order key at y is (take place xs) (drop place xs) (splits_gap xs at place gap) (subst (AreInOrder lower key) (sym (take-append-drop place xs)) are)

-- what the rows hold, by f
module _ {X Y K : Type 0} (cmp : K → K → Ordering) (lower same : K → K → Bool) (order : IsOrder cmp lower same) (f : X → Y) (key : Y → K) where
  pub held_gap : (xs : List X) (at : K) (place : ℕ) → WouldStandAt lower (λ x. key (f x)) xs at place → find (λ o. same at (key o)) (map f xs) ≡ None
  held_gap xs at place gap = find_map (λ o. same at (key o)) f xs ∙ ap (option_map f) (find_gap cmp lower same order (λ z. key (f z)) xs at place gap)

  pub not_absent : (xs : List X) (at : K) (place : ℕ) → AreInOrder lower (λ x. key (f x)) xs → StandsAt (λ x. key (f x)) xs at place → is_some (find (λ o. same at (key o)) (map f xs)) ≡ false → ⊥
  not_absent [] at place are stands none = omega (arith, stands.in_range)
  not_absent (first ∷ others) at place are stands none =
      let xs : List X = first ∷ others in
      let own : X = get_or xs place first in
      false≢true (sym none ∙ ap is_some (find_map (λ o. same at (key o)) f xs) ∙ some_of (find (λ z. same at (key (f z))) xs) own
      (ap (find (λ z. same at (key (f z)))) (sym (set-get_or xs place first) ∙ set_split xs place own stands.in_range)
      ∙ found_own cmp lower same order (λ z. key (f z)) at (take place xs) (drop (suc place) xs) (splits_at cmp lower same order (λ z. key (f z)) xs at place are stands) (Some own) (stands.key_is first)))
    where
      some_of : (o : Option X) (x : X) → o ≡ Some x → is_some (option_map f o) ≡ true
      some_of o x h = rw h refl

  pub not_there : (xs : List X) (at : K) (place : ℕ) → WouldStandAt lower (λ x. key (f x)) xs at place → is_some (find (λ o. same at (key o)) (map f xs)) ≡ true → ⊥
  not_there xs at place gap some = false≢true (sym (ap is_some (held_gap xs at place gap)) ∙ some)

  pub map_set_same : (xs : List X) (place : ℕ) → place < length xs → (x y : X) → x ≡ get_or xs place x → f y ≡ f x → map f (set xs place y) ≡ map f xs
  map_set_same xs place in_range x y read is =
      ap (map f) (set_split xs place y in_range) ∙ map-append f (take place xs) (y ∷ drop (suc place) xs)
      ∙ ap (λ o. map f (take place xs) ++ o ∷ map f (drop (suc place) xs)) is
      ∙ sym (map-append f (take place xs) (x ∷ drop (suc place) xs)) ∙ ap (map f) (sym (at_place xs place x in_range read))

  pub map_inserted : (xs : List X) (place : ℕ) (y : X) → WouldStandAt lower (λ x. key (f x)) xs (key (f y)) place
      → map f (insert xs place y) ≡ filter (λ o. lower (key o) (key (f y))) (map f xs) ++ f y ∷ filter (λ o. not (lower (key o) (key (f y)))) (map f xs)
  map_inserted xs place y gap =
      let at : K = key (f y) in
      let before : List X = take place xs in
      let after : List X = drop place xs in
      let low : Y → Bool = λ o. lower (key o) at in
      let parts : map f xs ≡ map f before ++ map f after = ap (map f) (sym (take-append-drop place xs)) ∙ map-append f before after in
      let higher : AllByRecursion (λ x. low (f x) ≡ false) after = All-weaken (λ x. lower at (key (f x)) ≡ true) (λ x. low (f x) ≡ false) (λ x h. order.one_way at (key (f x)) h) after gap.above in
      let lows : filter low (map f xs) ≡ map f before = ap (filter low) parts ∙ filter-append low (map f before) (map f after)
      ∙ joined _ (map f before) _ [] (filter_each low f before gap.below) (filter_none low f after higher) ∙ append-nil (map f before) in
      let highs : filter (λ o. not (low o)) (map f xs) ≡ map f after = ap (filter (λ o. not (low o))) parts ∙ filter-append (λ o. not (low o)) (map f before) (map f after)
      ∙ joined _ [] _ (map f after)
      (filter_none (λ o. not (low o)) f before (All-weaken (λ x. low (f x) ≡ true) (λ x. not (low (f x)) ≡ false) (λ x h. opposite (low (f x)) h) before gap.below))
      (filter_each (λ o. not (low o)) f after (All-weaken (λ x. low (f x) ≡ false) (λ x. not (low (f x)) ≡ true) (λ x h. opposite_too (low (f x)) h) after higher)) in
      map-append f before (y ∷ after) ∙ sym (joined _ (map f before) _ (f y ∷ map f after) lows (ap (λ os. f y ∷ os) highs))

  pub map_modified : (xs : List X) (place : ℕ) (y : X) → AreInOrder lower (λ x. key (f x)) xs → StandsAt (λ x. key (f x)) xs (key (f y)) place
      → map f (set xs place y) ≡ map (λ o. cond (same (key (f y)) (key o)) (f y) o) (map f xs)
  map_modified [] place y are stands = absurd (omega (arith, stands.in_range))
  map_modified (first ∷ others) place y are stands =
      let xs : List X = first ∷ others in
      let at : K = key (f y) in
      let before : List X = take place xs in
      let after : List X = drop (suc place) xs in
      let own : X = get_or xs place first in
      let p : Y → Bool = λ o. same at (key o) in
      let s = splits_at cmp lower same order (λ z. key (f z)) xs at place are stands in
      let parts : map f xs ≡ map f before ++ f own ∷ map f after = ap (map f) (sym (set-get_or xs place first) ∙ set_split xs place own stands.in_range) ∙ map-append f before (own ∷ after) in
      let is : p (f own) ≡ true = subst (λ k. same at k ≡ true) (sym (stands.key_is first)) (order.itself at) in
      let here : cond (p (f own)) (f y) (f own) ≡ f y = rw is refl in
      let old : map (λ o. cond (p o) (f y) o) (map f xs) ≡ map f before ++ f y ∷ map f after = ap (map (λ o. cond (p o) (f y) o)) parts ∙ map-append (λ o. cond (p o) (f y) o) (map f before) (f own ∷ map f after)
      ∙ joined _ (map f before) _ (f y ∷ map f after)
      (map_kept p (f y) f before (before_differ cmp lower same order (λ z. key (f z)) at before s.below))
      (ap (λ o. o ∷ map (λ o. cond (p o) (f y) o) (map f after)) here ∙ ap (λ os. f y ∷ os) (map_kept p (f y) f after (after_differ cmp lower same order (λ z. key (f z)) at after s.above))) in
      ap (map f) (set_split xs place y stands.in_range) ∙ map-append f before (y ∷ after) ∙ sym old

  differ : (xs : List X) (at : K) (place : ℕ) → WouldStandAt lower (λ x. key (f x)) xs at place → AllByRecursion (λ x. same at (key (f x)) ≡ false) xs
  differ xs at place gap =
      subst (AllByRecursion (λ x. same at (key (f x)) ≡ false)) (take-append-drop place xs)
      (each_append (λ x. same at (key (f x)) ≡ false) (take place xs) (drop place xs)
      (before_differ cmp lower same order (λ z. key (f z)) at (take place xs) gap.below)
      (after_differ cmp lower same order (λ z. key (f z)) at (drop place xs) gap.above))

  pub none_modified : (xs : List X) (place : ℕ) (o : Y) → WouldStandAt lower (λ x. key (f x)) xs (key o) place → map f xs ≡ map (λ z. cond (same (key o) (key z)) o z) (map f xs)
  none_modified xs place o gap = sym (map_kept (λ z. same (key o) (key z)) o f xs (differ xs (key o) place gap))

  pub map_deleted : (xs : List X) (at : K) (place : ℕ) → AreInOrder lower (λ x. key (f x)) xs → StandsAt (λ x. key (f x)) xs at place
      → map f (remove xs place) ≡ filter (λ o. not (same at (key o))) (map f xs)
  map_deleted [] at place are stands = absurd (omega (arith, stands.in_range))
  map_deleted (first ∷ others) at place are stands =
      let xs : List X = first ∷ others in
      let before : List X = take place xs in
      let after : List X = drop (suc place) xs in
      let own : X = get_or xs place first in
      let p : Y → Bool = λ o. not (same at (key o)) in
      let s = splits_at cmp lower same order (λ z. key (f z)) xs at place are stands in
      let parts : map f xs ≡ map f before ++ f own ∷ map f after = ap (map f) (sym (set-get_or xs place first) ∙ set_split xs place own stands.in_range) ∙ map-append f before (own ∷ after) in
      let gone : p (f own) ≡ false = opposite (same at (key (f own))) (subst (λ k. same at k ≡ true) (sym (stands.key_is first)) (order.itself at)) in
      let old : filter p (map f xs) ≡ map f before ++ map f after = ap (filter p) parts ∙ filter-append p (map f before) (f own ∷ map f after)
      ∙ joined _ (map f before) _ (map f after)
      (filter_each p f before (All-weaken (λ x. same at (key (f x)) ≡ false) (λ x. p (f x) ≡ true) (λ x h. opposite_too (same at (key (f x))) h) before (before_differ cmp lower same order (λ z. key (f z)) at before s.below)))
      (rw gone (filter_each p f after (All-weaken (λ x. same at (key (f x)) ≡ false) (λ x. p (f x) ≡ true) (λ x h. opposite_too (same at (key (f x))) h) after (after_differ cmp lower same order (λ z. key (f z)) at after s.above)))) in
      map-append f before after ∙ sym old

  pub none_deleted : (xs : List X) (at : K) (place : ℕ) → WouldStandAt lower (λ x. key (f x)) xs at place → map f xs ≡ filter (λ o. not (same at (key o))) (map f xs)
  none_deleted xs at place gap =
      sym (filter_each (λ o. not (same at (key o))) f xs (All-weaken (λ x. same at (key (f x)) ≡ false) (λ x. not (same at (key (f x))) ≡ true) (λ x h. opposite_too (same at (key (f x))) h) xs (differ xs at place gap)))
