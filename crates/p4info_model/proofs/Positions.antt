-- The first place of an item that passes a test.
use Rattle.std.proofs.Common.{◌≡◌, ℕ, ◌+◌, ◌≤◌, ◌∙◌, refl, sym, Bool, true, false, cond, nat_lt, nat_eq, List, [], ◌∷◌, ◌++◌, length, Option, Some, None, arith, length-append}
use Rattle.std.specs.List.{find, position, position_or_len, slice_get}
use Rattle.std.specs.Option.{option_or, MatchOption}
use Rattle.std.proofs.lemmas.List.Folds.{position_or_len_push, find_at}
use Rattle.std.proofs.lemmas.List.Sums.{prefix_len-le-length}
use Rattle.std.proofs.lemmas.Option.{slice_get_past}
use Rattle.std.proofs.lemmas.Bool.Decides.{nat_tests}

at_push : (n l m : ℕ) (b : Bool) → n ≤ l → m ≡ cond (nat_eq n l) (l + cond b 0 1) n → cond (nat_lt m (l + 1)) (Some m) None ≡ option_or (cond (nat_lt n l) (Some n) None) (cond b (Some l) None)
at_push n l m true le e = grind (arith, nat_tests)
at_push n l m false le e = grind (arith, nat_tests)

-- one more item
pub position_push : {X : Type 0} (p : X → Bool) (xs : List X) (x : X) → position p (xs ++ x ∷ []) ≡ option_or (position p xs) (cond (p x) (Some (length xs)) None)
position_push p xs x = rw (length-append xs (x ∷ [])) (at_push (position_or_len p xs) (length xs) _ (p x) (prefix_len-le-length _ xs) (position_or_len_push p xs x))

by_place : {X : Type 0} (xs : List X) (n : ℕ) (f : Option X) → f ≡ slice_get xs n → (b : Bool) → b ≡ nat_lt n (length xs) → MatchOption (cond b (Some n) None) (f ≡ None) (λ i. slice_get xs i ≡ f)
by_place xs n f e true h = sym e
by_place xs n f e false h = e ∙ slice_get_past xs n (grind (arith, nat_tests))

-- what is found, by its place
pub find_place : {X : Type 0} (p : X → Bool) (xs : List X) → MatchOption (position p xs) (find p xs ≡ None) (λ i. slice_get xs i ≡ find p xs)
find_place p xs = by_place xs (position_or_len p xs) (find p xs) (find_at p xs) _ refl
