-- Lists of which each element has a property.
use Rattle.std.proofs.Common.{◌≡◌, ℕ, suc, zero, ◌+◌, ◌<◌, ◌≤◌, Bool, true, false, cond, not, List, [], ◌∷◌, ◌++◌, length, get_or, Some, None, Result, Ok, Err, OnErr, refl, sym, ap, ◌∙◌, arith}
use Rattle.std.specs.Prelude.{filter, map, find}
use Rattle.std.specs.List.{AllByRecursion, position, prefix_len}
use Rattle.std.proofs.lemmas.Bool.Decides.{nat_tests}

pub on_err : {T E : Type 0} (r : Result T E) (P : Type 0) → P → OnErr r P
on_err (Ok x) P h = tt
on_err (Err e) P h = h

pub each_append : {X : Type 0} (P : X → Type 0) (xs ys : List X) → AllByRecursion P xs → AllByRecursion P ys → AllByRecursion P (xs ++ ys)
each_append P [] ys h k = k
each_append P (x ∷ xs) ys h k = (h.0, each_append P xs ys h.1 k)

pub each_front : {X : Type 0} (P : X → Type 0) (xs ys : List X) → AllByRecursion P (xs ++ ys) → AllByRecursion P xs
each_front P [] ys h = tt
each_front P (x ∷ xs) ys h = (h.0, each_front P xs ys h.1)

pub each_back : {X : Type 0} (P : X → Type 0) (xs ys : List X) → AllByRecursion P (xs ++ ys) → AllByRecursion P ys
each_back P [] ys h = h
each_back P (x ∷ xs) ys h = each_back P xs ys h.1

pub each_map : {X : Type 0} (P : X → Type 0) (f : X → X) → ((x : X) → P x → P (f x)) → (xs : List X) → AllByRecursion P xs → AllByRecursion P (map f xs)
each_map P f keeps [] h = tt
each_map P f keeps (x ∷ xs) h = (keeps x h.0, each_map P f keeps xs h.1)

pub filter_all : {X : Type 0} (p : X → Bool) (xs : List X) → AllByRecursion (λ x. p x ≡ true) xs → filter p xs ≡ xs
filter_all p [] h = refl
filter_all p (x ∷ xs) h = rw h.0 (ap (λ ys. x ∷ ys) (filter_all p xs h.1))

pub filter_none : {X : Type 0} (p : X → Bool) (xs : List X) → AllByRecursion (λ x. p x ≡ false) xs → filter p xs ≡ []
filter_none p [] h = refl
filter_none p (x ∷ xs) h = rw h.0 (filter_none p xs h.1)

pub map_none : {X : Type 0} (f : X → X) (xs : List X) → AllByRecursion (λ x. f x ≡ x) xs → map f xs ≡ xs
map_none f [] h = refl
map_none f (x ∷ xs) h = rw h.0 (ap (λ ys. x ∷ ys) (map_none f xs h.1))

passed_over : {X : Type 0} (p : X → Bool) (b : Bool) (x : X) (xs ys : List X) → p x ≡ false → find p ys ≡ find p xs → find p (cond b (x ∷ ys) ys) ≡ find p xs
passed_over p true x xs ys h k = rw h k
passed_over p false x xs ys h k = k

found_alike : {X : Type 0} (p q : X → Bool) → ((x : X) → p x ≡ true → q x ≡ true) → (b : Bool) (x : X) (xs : List X) → p x ≡ b → find p (filter q xs) ≡ find p xs → find p (filter q (x ∷ xs)) ≡ find p (x ∷ xs)
found_alike p q weaker true x xs h k = rw (weaker x h, h)
found_alike p q weaker false x xs h k = passed_over p (q x) x xs (filter q xs) h k ∙ sym (rw h refl)

-- a filter by a weaker test keeps what the stronger one finds
pub find_filter : {X : Type 0} (p q : X → Bool) → ((x : X) → p x ≡ true → q x ≡ true) → (xs : List X) → find p (filter q xs) ≡ find p xs
find_filter p q weaker [] = refl
find_filter p q weaker (x ∷ xs) = found_alike p q weaker (p x) x xs refl (find_filter p q weaker xs)

left_out : {X : Type 0} (p : X → Bool) (b : Bool) (x : X) (xs ys : List X) → p x ≡ false → filter p ys ≡ filter p xs → filter p (cond b (x ∷ ys) ys) ≡ filter p xs
left_out p true x xs ys h k = rw h k
left_out p false x xs ys h k = k

kept_alike : {X : Type 0} (p q : X → Bool) → ((x : X) → p x ≡ true → q x ≡ true) → (b : Bool) (x : X) (xs : List X) → p x ≡ b → filter p (filter q xs) ≡ filter p xs → filter p (filter q (x ∷ xs)) ≡ filter p (x ∷ xs)
kept_alike p q weaker true x xs h k = rw (weaker x h, h) (ap (λ ys. x ∷ ys) k)
kept_alike p q weaker false x xs h k = left_out p (q x) x xs (filter q xs) h k ∙ sym (rw h refl)

pub filter_filter : {X : Type 0} (p q : X → Bool) → ((x : X) → p x ≡ true → q x ≡ true) → (xs : List X) → filter p (filter q xs) ≡ filter p xs
filter_filter p q weaker [] = refl
filter_filter p q weaker (x ∷ xs) = kept_alike p q weaker (p x) x xs refl (filter_filter p q weaker xs)

-- an element where the test passes first is found
pub find_first : {X : Type 0} (p : X → Bool) (xs : List X) (i : ℕ) (d : X) → i < length xs → p (get_or xs i d) ≡ true → ((k : ℕ) → k < i → p (get_or xs k d) ≡ false) → find p xs ≡ Some (get_or xs i d)
find_first p [] i d in_range passes fails = absurd (omega arith)
find_first p (x ∷ xs) zero d in_range passes fails = rw passes refl
find_first p (x ∷ xs) (suc i) d in_range passes fails = rw (fails 0 (omega arith)) (find_first p xs i d (omega arith) passes (λ k below. fails (suc k) (omega arith)))

not_here : {X : Type 0} (p : X → Bool) (b : Bool) (n m : ℕ) → suc n ≤ cond (not b) (1 + m) 0 → (b ≡ false) × (n ≤ m)
not_here p true n m h = absurd (omega arith)
not_here p false n m h = (refl, omega arith)

no_place : {X : Type 0} (p : X → Bool) (xs : List X) → length xs ≤ prefix_len (λ x. not (p x)) xs → AllByRecursion (λ x. p x ≡ false) xs
no_place p [] h = tt
no_place p (x ∷ xs) h = let k = not_here p (p x) (length xs) (prefix_len (λ y. not (p y)) xs) h in (k.0, no_place p xs k.1)

pub none_at : {X : Type 0} (p : X → Bool) (xs : List X) → position p xs ≡ None → AllByRecursion (λ x. p x ≡ false) xs
none_at p xs h = no_place p xs (grind (arith, nat_tests))
