-- What a test finds in a list, with its place, and what holds of all items of a list.
use Rattle.std.proofs.Common.{◌≡◌, ℕ, ◌<◌, nat_lt, arith, Bool, true, false, cond, ◌||◌, List, [], ◌∷◌, length, map, Option, Some, None, is_some, refl, sym, ap, ◌∙◌, subst}
use Rattle.std.specs.Prelude.{All, IfSome, IsSomeAnd, unwrap_or, option_map}
use Rattle.std.specs.List.{find, position, position_or_len, list_any, slice_get}
use Rattle.std.specs.Option.{MatchOption}
use Rattle.std.proofs.lemmas.Bool.{or_parts, ltb-true}
use Rattle.std.proofs.lemmas.List.Elements.{All-nil, All-cons}
use Rattle.std.proofs.lemmas.Option.{slice_get-map, slice_get_within, get_or_from_slice_get, same_Some}
use Rattle.p4info_model.proofs.Positions.{find_place}

-- the first item that passes a test, and its place
pub record Found (X : Type 0) (p : X → Bool) (xs : List X) : Type 0 where
  pub object : X
  pub place : ℕ
  pub is : find p xs ≡ Some object
  pub at : position p xs ≡ Some place
  pub there : slice_get xs place ≡ Some object

found_at : {X : Type 0} (p : X → Bool) (xs : List X) (o : Option X) (r : Option ℕ) → find p xs ≡ o → position p xs ≡ r
    → MatchOption r (o ≡ None) (λ i. slice_get xs i ≡ o) → is_some o ≡ true → Found X p xs
found_at p xs None r e f h some = absurd cc
found_at p xs (Some x) None e f h some = absurd cc
found_at p xs (Some x) (Some i) e f h some = record { object = x; place = i; is = e; at = f; there = h }

-- where an item passes the test, the first one is found
pub found : {X : Type 0} (p : X → Bool) (xs : List X) → is_some (find p xs) ≡ true → Found X p xs
found p xs some = found_at p xs (find p xs) (position p xs) refl refl (find_place p xs) some

-- what is found is among the items
pub found_within : {X : Type 0} (p : X → Bool) (xs : List X) (f : Found X p xs) → f.place < length xs
found_within p xs f = slice_get_within xs f.place f.object f.there

-- what holds of all items holds of the one at a place
at_place : {X : Type 0} (P : X → Type 0) (xs : List X) (i : ℕ) (x : X) → All P xs → slice_get xs i ≡ Some x → P x
at_place P xs i x all there = subst P (get_or_from_slice_get xs i x x there) (all i x (slice_get_within xs i x there))

-- what holds of all items holds of the one that is found
pub of_found : {X : Type 0} (P : X → Type 0) (p : X → Bool) (xs : List X) (x : X) → All P xs → find p xs ≡ Some x → P x
of_found {X = X} P p xs x all e =
    let f : Found X p xs = found p xs (ap is_some e) in
    subst P (same_Some f.object x (sym f.is ∙ e)) (at_place P xs f.place f.object all f.there)

-- the image of the item at a place stands at that place among the images
pub image_at : {X Y : Type 0} (v : X → Y) (xs : List X) (i : ℕ) (x : X) → slice_get xs i ≡ Some x → slice_get (map v xs) i ≡ Some (v x)
image_at v xs i x there = slice_get-map v xs i ∙ ap (option_map v) there

-- where no item passes a test, each one fails it
pub each_fails : {X : Type 0} (p : X → Bool) (xs : List X) → list_any p xs ≡ false → All (λ x. p x ≡ false) xs
each_fails p [] none = All-nil (λ x. p x ≡ false)
each_fails p (x ∷ xs) none =
    let parts : (p x ≡ false) × (list_any p xs ≡ false) = or_parts (p x) (list_any p xs) none in
    All-cons (λ y. p y ≡ false) x xs parts.0 (each_fails p xs parts.1)

-- a fact of the value that is there
pub some_has : {X : Type 0} (P : X → Type 0) (o : Option X) (x : X) → o ≡ Some x → P x → IsSomeAnd o P
some_has P o x e h = subst (λ q. IsSomeAnd q P) (sym e) h

-- ---- places

place_below : (n m k : ℕ) (b : Bool) → nat_lt n m ≡ b → m ≡ k → IfSome (cond b (Some n) None) (λ i. i < k)
place_below n m k true test same = omega (arith, ltb-true n m test)
place_below n m k false test same = tt

-- a place that a test finds is one of the items'
pub position_within : {X : Type 0} (p : X → Bool) (xs : List X) (n : ℕ) → length xs ≡ n → IfSome (position p xs) (λ i. i < n)
position_within p xs n same = place_below (position_or_len p xs) (length xs) n (nat_lt (position_or_len p xs) (length xs)) refl same

-- the place of what is there
pub unwrapped : {X : Type 0} (p : X → Bool) (xs : List X) (f : Found X p xs) → unwrap_or (position p xs) 0 ≡ f.place
unwrapped p xs f = ap (λ o. unwrap_or o 0) f.at

-- so it is below how many items there are
pub unwrapped_within : {X : Type 0} (p : X → Bool) (xs : List X) → is_some (find p xs) ≡ true → unwrap_or (position p xs) 0 < length xs
unwrapped_within p xs some =
    let f = found p xs some in
    subst (λ n. n < length xs) (sym (unwrapped p xs f)) (found_within p xs f)

-- where some item passes a test, one is found
pub any_found : {X : Type 0} (p : X → Bool) (xs : List X) → list_any p xs ≡ true → is_some (find p xs) ≡ true
any_found p [] any = any
any_found p (x ∷ xs) any = any_step (p x) (list_any p xs) x (find p xs) any (any_found p xs)
  where
    any_step : {X : Type 0} (b c : Bool) (x : X) (o : Option X) → (b || c) ≡ true → (c ≡ true → is_some o ≡ true) → is_some (cond b (Some x) o) ≡ true
    any_step true c x o any rest = refl
    any_step false c x o any rest = rest any
