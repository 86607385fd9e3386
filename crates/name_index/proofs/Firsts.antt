-- The first of what passes a test, its place, and the first value of a name.
use Rattle.std.proofs.Common.{◌≡◌, ℕ, ◌+◌, ◌<◌, ◌≤◌, ◌∙◌, refl, sym, subst, is_some, Bool, true, false, cond, nat_lt, nat_eq, Bor, List, [], ◌∷◌, ◌++◌, length, take, get_or, Option, Some, None, if◌then◌else◌, arith, length-append}
use Rattle.std.specs.BTreeMap.{BTreeMap, UpdatesBy}
use Rattle.std.specs.Cmp.Lexicographic.{slice_cmp}
use Rattle.std.specs.List.{find, position, position_or_len, slice_get}
use Rattle.std.specs.Option.{option_or, MatchOption}
use Rattle.std.specs.Ordering.{nat_cmp}
use Rattle.std.specs.Str.{bytes_eq}
use Rattle.std.proofs.lemmas.Bool.Decides.{nat_tests}
use Rattle.std.proofs.lemmas.Grind.{common_steps}
use Rattle.std.proofs.lemmas.List.{take_more}
use Rattle.std.proofs.lemmas.List.Folds.{position_or_len_push, find_at}
use Rattle.std.proofs.lemmas.List.Sums.{prefix_len-le-length}
use Rattle.std.proofs.lemmas.Map.Text.{btree_map_updates_str}
use Rattle.std.proofs.lemmas.Option.{slice_get_past}
use Rattle.std.proofs.lemmas.Slice.Eq.{bytes_eq-Decides}
use Rattle.name_index.specs.Places.{at_name, PutsFirst}

at_push : (n l m : ℕ) (b : Bool) → n ≤ l → m ≡ cond (nat_eq n l) (l + cond b 0 1) n → cond (nat_lt m (l + 1)) (Some m) None ≡ option_or (cond (nat_lt n l) (Some n) None) (cond b (Some l) None)
at_push n l m true le e = grind (arith, nat_tests)
at_push n l m false le e = grind (arith, nat_tests)

position_push : {X : Type 0} (p : X → Bool) (xs : List X) (x : X) → position p (xs ++ x ∷ []) ≡ option_or (position p xs) (cond (p x) (Some (length xs)) None)
position_push p xs x = rw (length-append xs (x ∷ [])) (at_push (position_or_len p xs) (length xs) _ (p x) (prefix_len-le-length _ xs) (position_or_len_push p xs x))

by_place : {X : Type 0} (xs : List X) (n : ℕ) (f : Option X) → f ≡ slice_get xs n → (b : Bool) → b ≡ nat_lt n (length xs) → MatchOption (cond b (Some n) None) (f ≡ None) (λ i. slice_get xs i ≡ f)
by_place xs n f e true h = sym e
by_place xs n f e false h = e ∙ slice_get_past xs n (grind (arith, nat_tests))

find_place : {X : Type 0} (p : X → Bool) (xs : List X) → MatchOption (position p xs) (find p xs ≡ None) (λ i. slice_get xs i ≡ find p xs)
find_place p xs = by_place xs (position_or_len p xs) (find p xs) (find_at p xs) _ refl

-- what stands at the place of the first that passes a test
pub at_place : {X : Type 0} (p : X → Bool) (xs : List X) (r : Option ℕ) → r ≡ position p xs → MatchOption r (find p xs ≡ None) (λ i. slice_get xs i ≡ find p xs)
at_place p xs r e = subst (λ q. MatchOption q (find p xs ≡ None) (λ i. slice_get xs i ≡ find p xs)) (sym e) (find_place p xs)

length_front : {X : Type 0} (xs : List X) (i : ℕ) → i < length xs → length (take i xs) ≡ i
length_front xs i l = grind (arith, common_steps)

-- the same place, with one more
pub place_more : {X : Type 0} (p : X → Bool) (xs : List X) (i : ℕ) (d : X) (b : Bool) (before after : Option ℕ) → i < length xs → b ≡ p (get_or xs i d) → before ≡ position p (take i xs)
    → after ≡ option_or before (if b then Some i else None) → after ≡ position p (take (i + 1) xs)
place_more p xs i d b before after l e f a =
    rw (take_more xs i d l, position_push p (take i xs) (get_or xs i d), ← f, ← e, length_front xs i l) a

none_of : {V : Type 0} (o : Option V) → is_some o ≡ false → o ≡ None
none_of None e = refl
none_of (Some x) e = absurd (let c : ⊥ = cc in c)

first_by : {V : Type 0} (b : Bool) (o : Option V) (value : V) → (b ≡ true → o ≡ None) → cond b (Some value) o ≡ option_or o (cond b (Some value) None)
first_by true None value h = refl
first_by true (Some x) value h = absurd (let e : Some x ≡ None = h refl in let c : ⊥ = cc in c)
first_by false None value h = refl
first_by false (Some x) value h = refl

-- a name that had no value gets one
pub puts_first : {V : Type 0} (old new : BTreeMap (Bor (List ℕ)) V) (name : List ℕ) (value : V) → is_some (at_name old name) ≡ false
    → UpdatesBy (λ x y. slice_cmp nat_cmp x.now y.now) (λ k. slice_cmp nat_cmp name k.now) old new (Some value) → PutsFirst old new name value
puts_first old new name value absent updates =
    λ q. btree_map_updates_str name old new (Some value) updates q
    ∙ first_by (bytes_eq name q) (at_name old q) value (λ e. subst (λ other. at_name old other ≡ None) ((bytes_eq-Decides name q).0 e) (none_of (at_name old name) absent))
