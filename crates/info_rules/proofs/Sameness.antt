-- Items by one test of sameness and by another.
use Rattle.std.proofs.Common.{◌≡◌, ℕ, ◌∙◌, refl, ap, sym, Bool, cond, not, ◌||◌, nat_eq, nat_lt, List, [], ◌∷◌, length, map, Bor, true, false, suc, arith}
use Rattle.std.specs.List.{list_any}
use Rattle.std.specs.Set.{is_member, unique_keys, distinct_count}
use Rattle.std.specs.Str.{bytes_eq}
use Rattle.std.specs.Ordering.{eq_by_cmp, nat_cmp}
use Rattle.std.specs.Cmp.Lexicographic.{slice_cmp}
use Rattle.std.proofs.lemmas.Map.Text.{is_eq-slice_cmp}
use Rattle.std.proofs.lemmas.List.{length-map}
use Rattle.std.proofs.lemmas.Bool.Decides.{nat_tests}
use Rattle.info_rules.specs.Objects.{repeats}
use Rattle.info_rules.specs.Rules.{lacks_some}

-- the same test of each item
pub list_any_same : {A : Type 0} (p q : A → Bool) → ((x : A) → p x ≡ q x) → (xs : List A) → list_any p xs ≡ list_any q xs
list_any_same p q same [] = refl
list_any_same p q same (x ∷ xs) = rw (same x, list_any_same p q same xs)

-- a test of what each item is seen as
pub list_any_map : {A B : Type 0} (p : B → Bool) (f : A → B) → (xs : List A) → list_any p (map f xs) ≡ list_any (λ x. p (f x)) xs
list_any_map p f [] = refl
list_any_map p f (x ∷ xs) = ap (λ b. p (f x) || b) (list_any_map p f xs)

kept_length : {A B : Type 0} (b : Bool) (x : A) (xs : List A) (y : B) (ys : List B) → length xs ≡ length ys → length (cond b xs (x ∷ xs)) ≡ length (cond b ys (y ∷ ys))
kept_length true x xs y ys h = h
kept_length false x xs y ys h = ap suc h

unique_length : {A B : Type 0} (f : A → B) (e : B → B → Bool) (c : A → A → Bool) → ((x y : A) → c x y ≡ e (f x) (f y)) → (xs : List A) → length (unique_keys c xs) ≡ length (unique_keys e (map f xs))
unique_length f e c same [] = refl
unique_length f e c same (x ∷ xs) =
    rw (list_any_same (c x) (λ y. e (f x) (f y)) (same x) xs, ← list_any_map (e (f x)) f xs)
    (kept_length (is_member e (map f xs) (f x)) x (unique_keys c xs) (f x) (unique_keys e (map f xs)) (unique_length f e c same xs))

pub map_itself : {A : Type 0} (xs : List A) → map (λ x. x) xs ≡ xs
map_itself [] = refl
map_itself (x ∷ xs) = ap (λ ys. x ∷ ys) (map_itself xs)

-- items that are told apart by what they are seen as
repeats_seen : {A B : Type 0} (f : A → B) (e : B → B → Bool) (c : A → A → Bool) → ((x y : A) → c x y ≡ e (f x) (f y)) → (xs : List A) → repeats c xs ≡ repeats e (map f xs)
repeats_seen f e c same xs = ap (λ n. nat_lt n (length xs)) (unique_length f e c same xs) ∙ ap (nat_lt (distinct_count e (map f xs))) (sym (length-map xs f))

lacks_same : {A : Type 0} (e c : A → A → Bool) → ((x y : A) → c x y ≡ e x y) → (whole parts : List A) → lacks_some c whole parts ≡ lacks_some e whole parts
lacks_same e c same whole parts = list_any_same (λ p. not (is_member c whole p)) (λ p. not (is_member e whole p)) (λ p. ap not (list_any_same (c p) (e p) (same p) whole)) parts

-- the order of numbers tells them apart
numbers_same : (x y : ℕ) → eq_by_cmp nat_cmp x y ≡ nat_eq x y
numbers_same x y = grind (arith, nat_tests)

pub numbers_repeat : (xs : List ℕ) → repeats (eq_by_cmp nat_cmp) xs ≡ repeats nat_eq xs
numbers_repeat xs = repeats_seen (λ x. x) nat_eq (eq_by_cmp nat_cmp) numbers_same xs ∙ ap (repeats nat_eq) (map_itself xs)

pub texts_repeat : (xs : List (Bor (List ℕ))) → repeats (eq_by_cmp (λ x y. slice_cmp nat_cmp x.now y.now)) xs ≡ repeats bytes_eq (map (λ x. x.now) xs)
texts_repeat xs = repeats_seen (λ x. x.now) bytes_eq (eq_by_cmp (λ x y. slice_cmp nat_cmp x.now y.now)) (λ x y. is_eq-slice_cmp x.now y.now) xs

pub lacks_numbers : (whole parts : List ℕ) → lacks_some (eq_by_cmp nat_cmp) whole parts ≡ lacks_some nat_eq whole parts
lacks_numbers whole parts = lacks_same nat_eq (eq_by_cmp nat_cmp) numbers_same whole parts
