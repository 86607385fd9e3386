-- Peeling a graph: nodes that lead to peeled nodes alone are peeled, until none is left or none can be.
use Rattle.std.proofs.Common.{◌≡◌, ℕ, zero, suc, ◌+◌, ◌<◌, ◌≤◌, nat_lt, Bool, true, false, not, ◌&&◌, ◌||◌, List, [], ◌∷◌, length, set, replicate, refl, sym, ap, ◌∙◌, subst, arith, inl, inr, ◌⊎◌, ◌-◌}
use Rattle.std.specs.List.{list_any, list_all}
use Rattle.std.proofs.lemmas.List.Sums.{sum_by-set, sum_by-cons}
use Rattle.std.proofs.lemmas.List.{get_or-set_other}
use Rattle.std.proofs.lemmas.Bool.{cases_eq}
use Rattle.std.proofs.lemmas.Bool.Decides.{nat_tests}
use Rattle.bm_pipeline.specs.Graph.{has_path}
use Rattle.bm_rules.specs.Graphs.{leads, places, has_loop}
use Rattle.bm_rules.specs.Peeling.{number, peeled_count, is_peeled, NoLong, IsStuck, IsInside}

and_left : (a b : Bool) → (a && b) ≡ true → a ≡ true
and_left true b h = refl
and_left false b h = absurd (let c : ⊥ = cc in c)

and_right : (a b : Bool) → (a && b) ≡ true → b ≡ true
and_right true b h = h
and_right false b h = absurd (let c : ⊥ = cc in c)

or_left : (a b : Bool) → (a || b) ≡ false → a ≡ false
or_left true b h = absurd (let c : ⊥ = cc in c)
or_left false b h = refl

or_right : (a b : Bool) → (a || b) ≡ false → b ≡ false
or_right true b h = absurd (let c : ⊥ = cc in c)
or_right false b h = h

pub neither : (a b : Bool) → a ≡ false → b ≡ false → (a || b) ≡ false
neither true b h k = absurd (let c : ⊥ = cc in c)
neither false b h k = k

or_true_left : (a b : Bool) → a ≡ true → (a || b) ≡ true
or_true_left true b h = refl
or_true_left false b h = absurd (let c : ⊥ = cc in c)

or_true_right : (a b : Bool) → b ≡ true → (a || b) ≡ true
or_true_right true b h = refl
or_true_right false b h = h

none_of : {A : Type 0} (test other : A → Bool) (xs : List A) → list_all test xs ≡ true → ((x : A) → test x ≡ true → other x ≡ false) → list_any other xs ≡ false
none_of test other [] h each = refl
none_of test other (x ∷ xs) h each =
    neither (other x) (list_any other xs) (each x (and_left (test x) (list_all test xs) h)) (none_of test other xs (and_right (test x) (list_all test xs) h) each)

pub none_longer : {A : Type 0} (p q : A → Bool) (xs : List A) → list_any p xs ≡ false → ((x : A) → p x ≡ false → q x ≡ false) → list_any q xs ≡ false
none_longer p q [] h each = refl
none_longer p q (x ∷ xs) h each = neither (q x) (list_any q xs) (each x (or_left (p x) (list_any p xs) h)) (none_longer p q xs (or_right (p x) (list_any p xs) h) each)

-- where no path of some edges begins, none of one edge more does
longer : (next : ℕ → List ℕ) (k i : ℕ) → has_path next k i ≡ false → has_path next (suc k) i ≡ false
longer next zero i h = absurd (let c : ⊥ = cc in c)
longer next (suc k) i h = none_longer (has_path next k) (has_path next (suc k)) (next i) h (λ j. longer next k j)

pub longer_by : (next : ℕ → List ℕ) (more k i : ℕ) → has_path next k i ≡ false → has_path next (more + k) i ≡ false
longer_by next zero k i h = let e : k ≡ 0 + k = omega arith in subst (λ m. has_path next m i ≡ false) e h
longer_by next (suc more) k i h = let e : suc (more + k) ≡ suc more + k = omega arith in subst (λ m. has_path next m i ≡ false) e (longer next (more + k) i (longer_by next more k i h))

-- one node more is peeled
pub counted : (peeled : List Bool) (i : ℕ) → i < length peeled → is_peeled peeled i ≡ false → peeled_count (set peeled i true) ≡ suc (peeled_count peeled)
counted peeled i inside left = omega (arith, sum_by-set number peeled i true false inside, ap number left)

peels_at : (edges : List (List ℕ)) (peeled : List Bool) (i j : ℕ) → list_all (is_peeled peeled) (leads edges i) ≡ true → NoLong edges peeled → is_peeled (set peeled i true) j ≡ true
    → (j ≡ i) ⊎ (j ≡ i → ⊥) → has_path (leads edges) (suc (peeled_count peeled)) j ≡ false
peels_at edges peeled i j all before here (inl same) =
    subst (λ m. has_path (leads edges) (suc (peeled_count peeled)) m ≡ false) (sym same) (none_of (is_peeled peeled) (has_path (leads edges) (peeled_count peeled)) (leads edges i) all before)
peels_at edges peeled i j all before here (inr apart) = longer (leads edges) (peeled_count peeled) j (before j (sym (get_or-set_other peeled i j true false apart) ∙ here))

-- a node that leads to peeled nodes alone is peeled
pub peels : (edges : List (List ℕ)) (peeled : List Bool) (i : ℕ) → i < length peeled → is_peeled peeled i ≡ false → list_all (is_peeled peeled) (leads edges i) ≡ true
    → NoLong edges peeled → NoLong edges (set peeled i true)
peels edges peeled i inside left all before =
    λ j here. subst (λ n. has_path (leads edges) n j ≡ false) (sym (counted peeled i inside left)) (peels_at edges peeled i j all before here (cases_eq j i))

-- no more nodes are peeled than there are
pub count_within : (peeled : List Bool) → peeled_count peeled ≤ length peeled
count_within [] = omega arith
count_within (true ∷ rest) = omega (arith, sum_by-cons number true rest, count_within rest)
count_within (false ∷ rest) = omega (arith, sum_by-cons number false rest, count_within rest)

at_all : (peeled : List Bool) (i : ℕ) → list_all (λ x. x) peeled ≡ true → i < length peeled → is_peeled peeled i ≡ true
at_all [] i h l = absurd (omega arith)
at_all (x ∷ xs) zero h l = and_left x (list_all (λ y. y) xs) h
at_all (x ∷ xs) (suc i) h l = at_all xs i (and_right x (list_all (λ y. y) xs) h) (omega arith)

none_below : (p : ℕ → Bool) (n : ℕ) → ((i : ℕ) → i < n → p i ≡ false) → list_any p (places n) ≡ false
none_below p zero h = refl
none_below p (suc n) h = neither (p n) (list_any p (places n)) (h n (omega arith)) (none_below p n (λ i l. h i (omega arith)))

some_at : (p : ℕ → Bool) (n i : ℕ) → i < suc n → p i ≡ true → (i < n → list_any p (places n) ≡ true) → (i ≡ n) ⊎ (i ≡ n → ⊥) → list_any p (places (suc n)) ≡ true
some_at p n i l h below (inl same) = or_true_left (p n) (list_any p (places n)) (subst (λ m. p m ≡ true) same h)
some_at p n i l h below (inr apart) = or_true_right (p n) (list_any p (places n)) (below (omega arith))

pub some_below : (p : ℕ → Bool) (n i : ℕ) → i < n → p i ≡ true → list_any p (places n) ≡ true
some_below p zero i l h = absurd (omega arith)
some_below p (suc n) i l h = some_at p n i l h (λ m. some_below p n i m h) (cases_eq i n)

open_one : (peeled : List Bool) → list_all (λ x. x) peeled ≡ false → (i : ℕ) × (i < length peeled) × (is_peeled peeled i ≡ false)
open_one [] h = absurd (let c : ⊥ = cc in c)
open_one (false ∷ xs) h = (0, omega arith, refl)
open_one (true ∷ xs) h = let found = open_one xs h in (suc found.0, omega (arith, found.1), found.2)

some_open_at : (edges : List (List ℕ)) (peeled : List Bool) (p : ℕ → Bool) (x : ℕ) (xs : List ℕ) → nat_lt x (length edges) ≡ true → (list_all (is_peeled peeled) xs ≡ false → list_any p xs ≡ true)
    → ((j : ℕ) → nat_lt j (length edges) ≡ true → is_peeled peeled j ≡ false → p j ≡ true) → (b : Bool) → is_peeled peeled x ≡ b → (b && list_all (is_peeled peeled) xs) ≡ false → list_any p (x ∷ xs) ≡ true
some_open_at edges peeled p x xs inside rest each true e k = or_true_right (p x) (list_any p xs) (rest k)
some_open_at edges peeled p x xs inside rest each false e k = or_true_left (p x) (list_any p xs) (each x inside e)

some_open : (edges : List (List ℕ)) (peeled : List Bool) (p : ℕ → Bool) (xs : List ℕ) → list_all (λ j. nat_lt j (length edges)) xs ≡ true → list_all (is_peeled peeled) xs ≡ false
    → ((j : ℕ) → nat_lt j (length edges) ≡ true → is_peeled peeled j ≡ false → p j ≡ true) → list_any p xs ≡ true
some_open edges peeled p [] inside h each = absurd (let c : ⊥ = cc in c)
some_open edges peeled p (x ∷ xs) inside h each =
    some_open_at edges peeled p x xs (and_left (nat_lt x (length edges)) (list_all (λ j. nat_lt j (length edges)) xs) inside)
    (λ k. some_open edges peeled p xs (and_right (nat_lt x (length edges)) (list_all (λ j. nat_lt j (length edges)) xs) inside) k each) each (is_peeled peeled x) refl h

-- from a node that is left where none can be peeled, paths of every length begin
paths : (edges : List (List ℕ)) (peeled : List Bool) → length peeled ≡ length edges → IsInside edges → ((i : ℕ) → IsStuck edges peeled i)
    → (k i : ℕ) → i < length peeled → is_peeled peeled i ≡ false → has_path (leads edges) k i ≡ true
paths edges peeled same inside stuck zero i l left = refl
paths edges peeled same inside stuck (suc k) i l left =
    some_open edges peeled (has_path (leads edges) k) (leads edges i) (inside i) (stuck i l left)
    (λ j within free. paths edges peeled same inside stuck k j (grind (arith, nat_tests)) free)

verdict_at : (edges : List (List ℕ)) (peeled : List Bool) → length peeled ≡ length edges → IsInside edges → NoLong edges peeled → ((i : ℕ) → IsStuck edges peeled i)
    → (b : Bool) → list_all (λ x. x) peeled ≡ b → not b ≡ has_loop edges
verdict_at edges peeled same inside short stuck true e =
    sym (none_below (has_path (leads edges) (length edges)) (length edges) (λ i l.
    let here : is_peeled peeled i ≡ true = at_all peeled i e (omega arith) in
    let sum : length edges - peeled_count peeled + peeled_count peeled ≡ length edges = omega (arith, count_within peeled) in
    subst (λ n. has_path (leads edges) n i ≡ false) sum (longer_by (leads edges) (length edges - peeled_count peeled) (peeled_count peeled) i (short i here))))
verdict_at edges peeled same inside short stuck false e =
    let found = open_one peeled e in
    sym (some_below (has_path (leads edges) (length edges)) (length edges) found.0 (omega (arith, found.1)) (paths edges peeled same inside stuck (length edges) found.0 found.1 found.2))

-- where no node can be peeled, there is a loop just where one is left
pub verdict : (edges : List (List ℕ)) (peeled : List Bool) → length peeled ≡ length edges → IsInside edges → NoLong edges peeled → ((i : ℕ) → IsStuck edges peeled i) → not (list_all (λ x. x) peeled) ≡ has_loop edges
verdict edges peeled same inside short stuck = verdict_at edges peeled same inside short stuck (list_all (λ x. x) peeled) refl

none_peeled : (n i : ℕ) → is_peeled (replicate n false) i ≡ false
none_peeled zero i = refl
none_peeled (suc n) zero = refl
none_peeled (suc n) (suc i) = none_peeled n i

-- before any node is peeled
pub begins : (edges : List (List ℕ)) (n : ℕ) → NoLong edges (replicate n false)
begins edges n i h = absurd (let c : ⊥ = cc (none_peeled n i) in c)
