-- Facts about each item from tests that no item fails.
use Rattle.std.proofs.Common.{◌≡◌, ℕ, suc, refl, ap, ◌∙◌, Bool, true, false, cond, ◌||◌, List, [], ◌∷◌, map, flat_map, Option, Some, None, IsSome, IfSome, Bor, All, arith}
use Rattle.std.specs.List.{list_any, find}
use Rattle.std.specs.Option.{option_copied}
use Rattle.std.proofs.lemmas.List.Elements.{All-nil, All-cons, All-map}
use Rattle.std.proofs.lemmas.List.Folds.{list_any-append}

pub neither : (a b : Bool) → (a || b) ≡ false → (a ≡ false) × (b ≡ false)
neither true b e = absurd cc
neither false b e = (refl, e)

-- what passes, where nothing fails
pub each : {X : Type 0} (bad : X → Bool) (P : X → Type 0) → ((x : X) → bad x ≡ false → P x) → (xs : List X) → list_any bad xs ≡ false → All P xs
each bad P step [] e = All-nil P
each bad P step (x ∷ xs) e = let n = neither (bad x) (list_any bad xs) e in All-cons P x xs (step x n.0) (each bad P step xs n.1)

-- the same of what each item stands for
pub each_map : {X Y : Type 0} (f : X → Y) (bad : X → Bool) (P : Y → Type 0) → ((x : X) → bad x ≡ false → P (f x)) → (xs : List X) → list_any bad xs ≡ false → All P (map f xs)
each_map f bad P step xs e = All-map P f xs (each bad (λ x. P (f x)) step xs e)

-- a test of joined lists
pub list_any_flat : {X Y : Type 0} (p : Y → Bool) (f : X → List Y) → (xs : List X) → list_any p (flat_map f xs) ≡ list_any (λ x. list_any p (f x)) xs
list_any_flat p f [] = refl
list_any_flat p f (x ∷ xs) = list_any-append p (f x) (flat_map f xs) ∙ ap (λ b. list_any p (f x) || b) (list_any_flat p f xs)

either : (a b c d : Bool) → (a ≡ true → c ≡ true) → (b ≡ true → d ≡ true) → (a || b) ≡ true → (c || d) ≡ true
either true b c d f g e = rw (f refl) refl
either false b true d f g e = refl
either false b false d f g e = g e

-- a weaker test
pub implied : {X : Type 0} (p q : X → Bool) → ((x : X) → p x ≡ true → q x ≡ true) → (xs : List X) → list_any p xs ≡ true → list_any q xs ≡ true
implied p q step [] e = e
implied p q step (x ∷ xs) e = either (p x) (list_any p xs) (q x) (list_any q xs) (step x) (implied p q step xs) e

found_or : {Y : Type 0} (b c : Bool) (y : Y) (r : Option Y) → (c ≡ true → IsSome r) → (b || c) ≡ true → IsSome (cond b (Some y) r)
found_or true c y r f e = refl
found_or false c y r f e = f e

-- what is there is found
pub there : {X Y : Type 0} (f : X → Y) (p : Y → Bool) → (xs : List X) → list_any (λ x. p (f x)) xs ≡ true → IsSome (find p (map f xs))
there f p [] e = absurd cc
there f p (x ∷ xs) e = found_or (p (f x)) (list_any (λ x. p (f x)) xs) (f x) (find p (map f xs)) (there f p xs) e

picked : {X : Type 0} (b : Bool) (P : X → Type 0) (x : X) (r : Option X) → P x → IfSome r P → IfSome (cond b (Some x) r) P
picked true P x r h t = h
picked false P x r h t = t

-- what is found is one of them
pub found_in : {X : Type 0} (P : X → Type 0) (p : X → Bool) (xs : List X) → All P xs → IfSome (find p xs) P
found_in P p [] all = tt
found_in P p (x ∷ xs) all = picked (p x) P x (find p xs) (all 0 x (omega arith)) (found_in P p xs (λ k d l. all (suc k) d (omega arith)))

copied : {X : Type 0} (P : X → Type 0) (r : Option (Bor X)) → IfSome (option_copied r) P → IfSome r (λ x. P x.now)
copied P None h = tt
copied P (Some x) h = h

-- the same behind a reference
pub found_valid : {X : Type 0} (P : X → Type 0) (p : X → Bool) (xs : List X) (r : Option (Bor X)) → option_copied r ≡ find p xs → All P xs → IfSome r (λ x. P x.now)
found_valid P p xs r e all = copied P r (rw e (found_in P p xs all))

-- numbers that stay as they are
pub numbers_kept : {X Y : Type 0} (f : X → Y) (g : Y → ℕ) (h : X → ℕ) → ((x : X) → g (f x) ≡ h x) → (xs : List X) → map g (map f xs) ≡ map h xs
numbers_kept f g h same [] = refl
numbers_kept f g h same (x ∷ xs) = rw (same x, numbers_kept f g h same xs) refl
