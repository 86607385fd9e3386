-- Facts about lists of what is made of each element.
use Rattle.std.proofs.Common.{◌≡◌, ℕ, ◌+◌, ◌≤◌, Bool, cond, List, [], ◌∷◌, ◌++◌, length, map, Option, Some, None, IfSome, arith}
use Rattle.std.specs.List.{AllByRecursion, count_by, filter_map, cons_option}
use Rattle.std.proofs.lemmas.List.Sums.{sum_by-cons}

-- what is told of an element that a list may have first
each_cons : {Y : Type 0} (Q : Y → Type 0) (o : Option Y) (ys : List Y) → IfSome o Q → AllByRecursion Q ys → AllByRecursion Q (cons_option o ys)
each_cons Q None ys first h = h
each_cons Q (Some y) ys first h = (first, h)

pub each_filter_map : {X Y : Type 0} (P : X → Type 0) (Q : Y → Type 0) (f : X → Option Y) → ((x : X) → P x → IfSome (f x) Q) → (xs : List X) → AllByRecursion P xs → AllByRecursion Q (filter_map f xs)
each_filter_map P Q f gives [] h = tt
each_filter_map P Q f gives (x ∷ xs) h = each_cons Q (f x) (filter_map f xs) (gives x h.0) (each_filter_map P Q f gives xs h.1)

pub each_of_map : {X Y : Type 0} (P : Y → Type 0) (f : X → Y) (xs : List X) → AllByRecursion P (map f xs) → AllByRecursion (λ x. P (f x)) xs
each_of_map P f [] h = tt
each_of_map P f (x ∷ xs) h = (h.0, each_of_map P f xs h.1)

pub each_front : {X : Type 0} (P : X → Type 0) (xs ys : List X) → AllByRecursion P (xs ++ ys) → AllByRecursion P xs
each_front P [] ys h = tt
each_front P (x ∷ xs) ys h = (h.0, each_front P xs ys h.1)

pub each_back : {X : Type 0} (P : X → Type 0) (xs ys : List X) → AllByRecursion P (xs ++ ys) → AllByRecursion P ys
each_back P [] ys h = h
each_back P (x ∷ xs) ys h = each_back P xs ys h.1

cons_few : {Y : Type 0} (o : Option Y) (ys : List Y) → length (cons_option o ys) ≤ length ys + 1
cons_few None ys = omega arith
cons_few (Some y) ys = omega arith

pub filter_map_few : {X Y : Type 0} (f : X → Option Y) (xs : List X) → length (filter_map f xs) ≤ length xs
filter_map_few f [] = omega arith
filter_map_few f (x ∷ xs) = omega (arith, cons_few (f x) (filter_map f xs), filter_map_few f xs)

pub count_cons : {X : Type 0} (p : X → Bool) (x : X) (xs : List X) → count_by p (x ∷ xs) ≡ cond {A = ℕ} (p x) 1 0 + count_by p xs
count_cons p x xs = sum_by-cons (λ y. cond {A = ℕ} (p y) 1 0) x xs

pub each_both : {X : Type 0} (P Q : X → Type 0) (xs : List X) → AllByRecursion P xs → AllByRecursion Q xs → AllByRecursion (λ x. P x × Q x) xs
each_both P Q [] h k = tt
each_both P Q (x ∷ xs) h k = ((h.0, k.0), each_both P Q xs h.1 k.1)
