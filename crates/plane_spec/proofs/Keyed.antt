-- Lists of what stands by rising profile and id: one more, one replaced, one fewer, and sums over them.
use Rattle.std.proofs.Common.{◌≡◌, ◌∙◌, subst, ap, ℕ, ◌+◌, Bool, true, false, cond, not, List, [], ◌∷◌, ◌++◌, length, map, Option, Some, refl, sym, arith}
use Rattle.std.specs.List.{All, AllByRecursion, AllPairs, filter, find, sum_by}
use Rattle.std.specs.Prelude.{is_some}
use Rattle.std.proofs.lemmas.Bool.Decides.{nat_tests}
use Rattle.std.proofs.lemmas.List.Elements.{All-nil, All-cons, All-head, All-tail}
use Rattle.std.proofs.lemmas.List.Kept.{AllPairs-cons}
use Rattle.std.proofs.lemmas.List.Filters.{sum_by-filter_both}
use Rattle.std.proofs.lemmas.List.Sums.{sum_by-append, sum_by-cons}
use Rattle.plane_spec.specs.Profiles.{same_id, stands_before}
use Rattle.plane_spec.proofs.Lists.{All-weaken, All-filter}

-- one that passes has none behind it that passes too
abbrev pub IsOnce : {X : Type 0} → (X → Bool) → List X → Type 0
IsOnce p [] = Unit {0}
IsOnce p (x ∷ xs) = (p x ≡ true → AllByRecursion (λ y. p y ≡ false) xs) × IsOnce p xs

-- A sum has the new one's part more, wherever it stands.
pub sum-placed : {X : Type 0} (p : X → Bool) (f : X → ℕ) (x : X) (xs : List X) → sum_by f (filter p xs ++ x ∷ filter (λ y. not (p y)) xs) ≡ sum_by f xs + f x
sum-placed p f x xs =
    let low = filter p xs in
    let high = filter (λ y. not (p y)) xs in
    let parts : sum_by f low + sum_by f high ≡ sum_by f xs = sum_by-filter_both p (λ y. not (p y)) (λ y. refl) f xs in
    let all = sum_by-append f low (x ∷ high) in
    let one = sum_by-cons f x high in
    omega (arith, parts, all, one)

sum-unchanged : {X : Type 0} (p : X → Bool) (u : X → X) (f : X → ℕ) (xs : List X) → AllByRecursion (λ y. p y ≡ false) xs → sum_by f (map (λ y. cond (p y) (u y) y) xs) ≡ sum_by f xs
sum-unchanged p u f [] none = refl
sum-unchanged {X = X} p u f (x ∷ xs) none =
    let rest = sum-unchanged p u f xs none.1 in
    let now : X = cond (p x) (u x) x in
    let same : now ≡ x = rw none.0 refl in
    let new = sum_by-cons f now (map (λ y. cond (p y) (u y) y) xs) in
    let old = sum_by-cons f x xs in
    omega (arith, rest, new, old, ap f same)

replaced_here : {X : Type 0} (p : X → Bool) (u : X → X) (f : X → ℕ) (x old : X) (xs : List X) (b : Bool) → p x ≡ b → (b ≡ true → AllByRecursion (λ y. p y ≡ false) xs) → cond b (Some x) (find p xs) ≡ Some old
    → (find p xs ≡ Some old → sum_by f (map (λ y. cond (p y) (u y) y) xs) + f old ≡ sum_by f xs + f (u old))
    → f (cond b (u x) x) + sum_by f (map (λ y. cond (p y) (u y) y) xs) + f old ≡ f x + sum_by f xs + f (u old)
replaced_here p u f x old xs true is once found later =
    let same : x ≡ old = cc in
    let rest = sum-unchanged p u f xs (once refl) in
    subst (λ o. f (u x) + sum_by f (map (λ y. cond (p y) (u y) y) xs) + f o ≡ f x + sum_by f xs + f (u o)) same (omega (arith, rest))
replaced_here p u f x old xs false is once found later = omega (arith, later found)

-- A sum with one replaced by what is made of it.
pub sum-replaced : {X : Type 0} (p : X → Bool) (u : X → X) (f : X → ℕ) (old : X) (xs : List X) → IsOnce p xs → find p xs ≡ Some old → sum_by f (map (λ y. cond (p y) (u y) y) xs) + f old ≡ sum_by f xs + f (u old)
sum-replaced p u f old [] once found = absurd (cc)
sum-replaced p u f old (x ∷ xs) once found =
    let new = sum_by-cons f (cond (p x) (u x) x) (map (λ y. cond (p y) (u y) y) xs) in
    let was = sum_by-cons f x xs in
    omega (arith, new, was, replaced_here p u f x old xs (p x) refl once.0 found (sum-replaced p u f old xs once.1))

sum-kept : {X : Type 0} (p : X → Bool) (f : X → ℕ) (xs : List X) → AllByRecursion (λ y. p y ≡ false) xs → sum_by f (filter (λ y. not (p y)) xs) ≡ sum_by f xs
sum-kept p f [] none = refl
sum-kept p f (x ∷ xs) none =
    let rest = sum-kept p f xs none.1 in
    let old = sum_by-cons f x xs in
    let new = sum_by-cons f x (filter (λ y. not (p y)) xs) in
    rw none.0 (omega (arith, rest, new, old))

removed_here : {X : Type 0} (p : X → Bool) (f : X → ℕ) (x old : X) (xs : List X) (b : Bool) → (b ≡ true → AllByRecursion (λ y. p y ≡ false) xs) → cond b (Some x) (find p xs) ≡ Some old
    → (find p xs ≡ Some old → sum_by f (filter (λ y. not (p y)) xs) + f old ≡ sum_by f xs)
    → sum_by f (cond (not b) (x ∷ filter (λ y. not (p y)) xs) (filter (λ y. not (p y)) xs)) + f old ≡ f x + sum_by f xs
removed_here p f x old xs true once found later =
    let same : x ≡ old = cc in
    let rest = sum-kept p f xs (once refl) in
    subst (λ o. sum_by f (filter (λ y. not (p y)) xs) + f o ≡ f x + sum_by f xs) same (omega (arith, rest))
removed_here p f x old xs false once found later =
    let new = sum_by-cons f x (filter (λ y. not (p y)) xs) in omega (arith, new, later found)

-- A sum with one fewer.
pub sum-removed : {X : Type 0} (p : X → Bool) (f : X → ℕ) (old : X) (xs : List X) → IsOnce p xs → find p xs ≡ Some old → sum_by f (filter (λ y. not (p y)) xs) + f old ≡ sum_by f xs
sum-removed p f old [] once found = absurd (cc)
sum-removed p f old (x ∷ xs) once found =
    let was = sum_by-cons f x xs in
    omega (arith, was, removed_here p f x old xs (p x) once.0 found (sum-removed p f old xs once.1))

-- by rising profile and id
abbrev pub AreRising : {X : Type 0} → (X → ℕ) → (X → ℕ) → List X → Type 0
AreRising profile id [] = Unit {0}
AreRising profile id (x ∷ xs) = AllByRecursion (λ y. stands_before (profile x) (id x) (profile y) (id y) ≡ true) xs × AreRising profile id xs

total : (a b c d : ℕ) → stands_before a b c d ≡ false → same_id c d a b ≡ false → stands_before c d a b ≡ true
total a b c d before same = grind (arith, nat_tests)

transitive : (a b c d e f : ℕ) → stands_before a b c d ≡ true → stands_before c d e f ≡ true → stands_before a b e f ≡ true
transitive a b c d e f one two = grind (arith, nat_tests)

differs : (a b c d e f : ℕ) → stands_before a b c d ≡ true → same_id e f a b ≡ true → same_id e f c d ≡ false
differs a b c d e f before same = grind (arith, nat_tests)

All-both : {X : Type 0} (P : X → Type 0) (xs ys : List X) → AllByRecursion P xs → AllByRecursion P ys → AllByRecursion P (xs ++ ys)
All-both P [] ys h k = k
All-both P (x ∷ xs) ys h k = (h.0, All-both P xs ys h.1 k)

All-two : {X : Type 0} (P Q R : X → Type 0) → ((x : X) → P x → Q x → R x) → (xs : List X) → AllByRecursion P xs → AllByRecursion Q xs → AllByRecursion R xs
All-two P Q R f [] h k = tt
All-two P Q R f (x ∷ xs) h k = (f x h.0 k.0, All-two P Q R f xs h.1 k.1)

All-mapped : {X : Type 0} (P Q : X → Type 0) (u : X → X) → ((x : X) → P x → Q (u x)) → (xs : List X) → AllByRecursion P xs → AllByRecursion Q (map u xs)
All-mapped P Q u f [] h = tt
All-mapped P Q u f (x ∷ xs) h = (f x h.0, All-mapped P Q u f xs h.1)

pub All-by-recursion : {X : Type 0} (P : X → Type 0) (xs : List X) → All P xs → AllByRecursion P xs
All-by-recursion P [] h = tt
All-by-recursion P (x ∷ xs) h = (All-head P x xs h, All-by-recursion P xs (All-tail P x xs h))

All-indexed : {X : Type 0} (P : X → Type 0) (xs : List X) → AllByRecursion P xs → All P xs
All-indexed P [] h = All-nil P
All-indexed P (x ∷ xs) h = All-cons P x xs h.0 (All-indexed P xs h.1)

none_here : {X : Type 0} (b : Bool) (x : X) (o : Option X) → is_some (cond b (Some x) o) ≡ false → (b ≡ false) × (is_some o ≡ false)
none_here true x o h = absurd (cc)
none_here false x o h = (refl, h)

none_there : {X : Type 0} (p : X → Bool) (xs : List X) → is_some (find p xs) ≡ false → AllByRecursion (λ x. p x ≡ false) xs
none_there p [] h = tt
none_there p (x ∷ xs) h = let here = none_here (p x) x (find p xs) h in (here.0, none_there p xs here.1)

passes_one : {X : Type 0} (p : X → Bool) (x : X) (xs : List X) (b : Bool) → p x ≡ b → AllByRecursion (λ y. p y ≡ true) (filter p xs) → AllByRecursion (λ y. p y ≡ true) (cond b (x ∷ filter p xs) (filter p xs))
passes_one p x xs true is h = (is, h)
passes_one p x xs false is h = h

not_true : (b : Bool) → not b ≡ true → b ≡ false
not_true true h = absurd (cc)
not_true false h = refl

apart_twice : (a b c d e f : ℕ) → same_id a b c d ≡ true → same_id a b e f ≡ true → stands_before c d e f ≡ true → ⊥
apart_twice a b c d e f one two before = let no : same_id a b e f ≡ false = differs c d e f a b before one in absurd (cc)

-- No two have one id.
pub rising_once : {X : Type 0} (profile id : X → ℕ) (a b : ℕ) (xs : List X) → AreRising profile id xs → IsOnce (λ y. same_id a b (profile y) (id y)) xs
rising_once profile id a b [] rising = tt
rising_once profile id a b (x ∷ xs) rising = (
  λ same. All-weaken _ _ (λ y before. differs (profile x) (id x) (profile y) (id y) a b before same) xs rising.0,
  rising_once profile id a b xs rising.1,
)

kept_rising : {X : Type 0} (profile id : X → ℕ) (b : Bool) (x : X) (xs : List X) → AllByRecursion (λ y. stands_before (profile x) (id x) (profile y) (id y) ≡ true) xs → AreRising profile id xs → AreRising profile id (cond b (x ∷ xs) xs)
kept_rising profile id true x xs before rising = (before, rising)
kept_rising profile id false x xs before rising = rising

pub rising_filter : {X : Type 0} (profile id : X → ℕ) (p : X → Bool) (xs : List X) → AreRising profile id xs → AreRising profile id (filter p xs)
rising_filter profile id p [] rising = tt
rising_filter profile id p (x ∷ xs) rising = kept_rising profile id (p x) x (filter p xs) (All-filter _ p xs rising.0) (rising_filter profile id p xs rising.1)

pub after_all : {X : Type 0} (profile id : X → ℕ) (x : X) (ys zs : List X) → AllByRecursion (λ y. stands_before (profile y) (id y) (profile x) (id x) ≡ true) ys
    → AllByRecursion (λ z. stands_before (profile x) (id x) (profile z) (id z) ≡ true) zs → AreRising profile id ys → AreRising profile id zs → AreRising profile id (ys ++ x ∷ zs)
after_all profile id x [] zs low high rising more = (high, more)
after_all profile id x (y ∷ ys) zs low high rising more = (
  All-both _ ys (x ∷ zs) rising.0 (low.0, All-weaken _ _ (λ z before. transitive (profile y) (id y) (profile x) (id x) (profile z) (id z) low.0 before) zs high),
  after_all profile id x ys zs low.1 high rising.1 more,
)

pub passes_filter : {X : Type 0} (p : X → Bool) (xs : List X) → AllByRecursion (λ y. p y ≡ true) (filter p xs)
passes_filter p [] = tt
passes_filter p (x ∷ xs) = passes_one p x xs (p x) refl (passes_filter p xs)

-- A new one of an id that is not there stands in order.
pub rising_placed : {X : Type 0} (profile id : X → ℕ) (x : X) (xs : List X) → AreRising profile id xs → is_some (find (λ y. same_id (profile x) (id x) (profile y) (id y)) xs) ≡ false
    → AreRising profile id (filter (λ y. stands_before (profile y) (id y) (profile x) (id x)) xs ++ x ∷ filter (λ y. not (stands_before (profile y) (id y) (profile x) (id x))) xs)
rising_placed {X = X} profile id x xs rising absent =
    let p : X → Bool = λ y. stands_before (profile y) (id y) (profile x) (id x) in
    let low = filter p xs in
    let high = filter (λ y. not (p y)) xs in
    let others : AllByRecursion (λ y. same_id (profile x) (id x) (profile y) (id y) ≡ false) xs = none_there _ xs absent in
    let apart : AllByRecursion (λ y. same_id (profile x) (id x) (profile y) (id y) ≡ false) high = All-filter _ (λ y. not (p y)) xs others in
    let above : AllByRecursion (λ y. stands_before (profile x) (id x) (profile y) (id y) ≡ true) high =
    All-two _ _ _ (λ y past other. total (profile y) (id y) (profile x) (id x) (not_true _ past) other) high (passes_filter (λ y. not (p y)) xs) apart in
    after_all profile id x low high (passes_filter p xs) above (rising_filter profile id p xs rising) (rising_filter profile id (λ y. not (p y)) xs rising)

same_keys : (a b c d e f : ℕ) → same_id a b c d ≡ true → stands_before c d e f ≡ stands_before a b e f
same_keys a b c d e f same = grind (arith, nat_tests)

same_keys_behind : (a b c d e f : ℕ) → same_id a b e f ≡ true → stands_before c d e f ≡ stands_before c d a b
same_keys_behind a b c d e f same = grind (arith, nat_tests)

-- One in the place of another of its id stands as that did.
first_replaced : {X : Type 0} (profile id : X → ℕ) (x y z : X) (p q : Bool) → same_id (profile x) (id x) (profile y) (id y) ≡ p → same_id (profile x) (id x) (profile z) (id z) ≡ q
    → stands_before (profile y) (id y) (profile z) (id z) ≡ true
    → let a : X = cond p x y in let b : X = cond q x z in stands_before (profile a) (id a) (profile b) (id b) ≡ true
first_replaced profile id x y z false false one two before = before
first_replaced profile id x y z true false one two before = sym (same_keys (profile x) (id x) (profile y) (id y) (profile z) (id z) one) ∙ before
first_replaced profile id x y z false true one two before = sym (same_keys_behind (profile x) (id x) (profile y) (id y) (profile z) (id z) two) ∙ before
first_replaced profile id x y z true true one two before = absurd (apart_twice (profile x) (id x) (profile y) (id y) (profile z) (id z) one two before)

pub rising_replaced : {X : Type 0} (profile id : X → ℕ) (x : X) (xs : List X) → AreRising profile id xs → AreRising profile id (map (λ y. cond (same_id (profile x) (id x) (profile y) (id y)) x y) xs)
rising_replaced profile id x [] rising = tt
rising_replaced profile id x (y ∷ xs) rising = (
  All-mapped _ _ (λ z. cond (same_id (profile x) (id x) (profile z) (id z)) x z) (λ z before. first_replaced profile id x y z _ _ refl refl before) xs rising.0,
  rising_replaced profile id x xs rising.1,
)

pub length-sum : {X : Type 0} (xs : List X) → length xs ≡ sum_by (λ x. 1) xs
length-sum [] = refl
length-sum {X = X} (x ∷ xs) = omega (arith, length-sum xs, sum_by-cons (λ (y : X). 1) x xs)

pub rising_pairs : {X : Type 0} (profile id : X → ℕ) (xs : List X) → AreRising profile id xs → AllPairs (λ x y. stands_before (profile x) (id x) (profile y) (id y) ≡ true) xs
rising_pairs profile id [] h = λ i j d before in_range. absurd (omega arith)
rising_pairs profile id (x ∷ xs) h =
    AllPairs-cons (λ a b. stands_before (profile a) (id a) (profile b) (id b) ≡ true) x xs (All-indexed _ xs h.0) (rising_pairs profile id xs h.1)
