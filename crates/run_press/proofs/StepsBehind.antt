-- The steps of the events behind the first so many.
use Rattle.std.proofs.Common.{◌≡◌, ◌∙◌, ap, refl, ℕ, zero, suc, List, [], ◌∷◌, drop, map, Option, Some, None, Result, Ok, Err}
use Rattle.std.specs.List.{filter_map}
use Rattle.std.specs.Prelude.{IfOk}
use Rattle.p4_types.specs.declared.journal.Step.{Step}
use Rattle.run_press.specs.Kinds.{steps_in}

kept : {X : Type 0} (f : X → Option Step) (x : X) (xs : List X) (o : Option Step) → f x ≡ o → steps_in (map f xs) ≡ filter_map f xs → steps_in (f x ∷ map f xs) ≡ filter_map f (x ∷ xs)
kept f x xs None is rest = rw is rest
kept f x xs (Some step) is rest = rw is (ap (λ steps. step ∷ steps) rest)

of_kinds : {X : Type 0} (f : X → Option Step) (xs : List X) → steps_in (map f xs) ≡ filter_map f xs
of_kinds f [] = refl
of_kinds f (x ∷ xs) = kept f x xs (f x) refl (of_kinds f xs)

pub behind : {X : Type 0} (f : X → Option Step) (n : ℕ) (xs : List X) → steps_in (drop n (map f xs)) ≡ filter_map f (drop n xs)
behind f zero xs = of_kinds f xs
behind f (suc n) [] = refl
behind f (suc n) (x ∷ xs) = behind f n xs

pub if_ok_as : {A E : Type 0} (r : Result A E) (a b : A) → a ≡ b → IfOk r (λ x. x ≡ a) → IfOk r (λ x. x ≡ b)
if_ok_as (Ok x) a b is h = h ∙ is
if_ok_as (Err e) a b is h = h
