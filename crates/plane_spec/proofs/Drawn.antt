-- Numbers that were drawn once each, by how often each number stands in a list.
use Rattle.std.proofs.Common.{◌≡◌, ℕ, zero, suc, ◌+◌, ◌<◌, ◌≤◌, false, cond, eqb, ltb, List, [], ◌∷◌, ◌++◌, Option, Some, None, refl, arith}
use Rattle.std.specs.List.{All, AllByRecursion, IsDistinct, sum_by, filter_map, cons_option}
use Rattle.std.specs.Prelude.{map, nat_eq}
use Rattle.std.proofs.lemmas.Bool.Decides.{nat_tests}
use Rattle.std.proofs.lemmas.List.Elements.{All-nil, All-cons}
use Rattle.std.proofs.lemmas.List.Sums.{sum_by-append, sum_by-cons}
use Rattle.p4_types.specs.declared.table.Entry.{Entry}
use Rattle.plane_spec.specs.PlaneLaws.{numbers_from}

-- how often a number stands in a list
abbrev pub times : ℕ → List ℕ → ℕ
times x xs = sum_by (λ y. cond (eqb x y) 1 0) xs

-- 1 for a number that was drawn, else 0
abbrev pub drawn : ℕ → ℕ → ℕ
drawn next x = cond (ltb x next) 1 0

-- Each number stands in the list once at most, and only if it was drawn.
abbrev pub AreDrawn : ℕ → List ℕ → Type 0
AreDrawn next xs = (x : ℕ) → times x xs ≤ drawn next x

-- how often a number is an entry's slot
abbrev pub slot_times : ℕ → Option ℕ → ℕ
slot_times x None = 0
slot_times x (Some slot) = cond (eqb x slot) 1 0

pub times-append : (x : ℕ) (xs ys : List ℕ) → times x (xs ++ ys) ≡ times x xs + times x ys
times-append x xs ys = sum_by-append (λ y. cond (eqb x y) 1 0) xs ys

times-cons : (x y : ℕ) (ys : List ℕ) → times x (y ∷ ys) ≡ cond (eqb x y) 1 0 + times x ys
times-cons x y ys = sum_by-cons (λ y. cond (eqb x y) 1 0) y ys

pub times-numbers : (x : ℕ) (entries : List Entry) → times x (map (λ entry. entry.seq) entries) ≡ sum_by (λ entry. cond (eqb x entry.seq) 1 0) entries
times-numbers x [] = refl
times-numbers x (e ∷ entries) =
    let rest = times-numbers x entries in
    let new = times-cons x e.seq (map (λ entry. entry.seq) entries) in
    let old = sum_by-cons (λ (entry : Entry). cond (eqb x entry.seq) 1 0) e entries in
    omega (arith, rest, new, old)

times-cons_option : (x : ℕ) (o : Option ℕ) (ys : List ℕ) → times x (cons_option o ys) ≡ slot_times x o + times x ys
times-cons_option x None ys = omega arith
times-cons_option x (Some y) ys = times-cons x y ys

pub times-slots : (x : ℕ) (entries : List Entry) → times x (filter_map (λ entry. entry.slot) entries) ≡ sum_by (λ entry. slot_times x entry.slot) entries
times-slots x [] = refl
times-slots x (e ∷ entries) =
    let rest = times-slots x entries in
    let new = times-cons_option x e.slot (filter_map (λ entry. entry.slot) entries) in
    let old = sum_by-cons (λ (entry : Entry). slot_times x entry.slot) e entries in
    omega (arith, rest, new, old)

-- one number more is drawn
pub drawn-more : (next x : ℕ) → cond (eqb x next) 1 0 + drawn next x ≡ drawn (next + 1) x
drawn-more next x = grind (arith, nat_tests)

-- so many numbers more are drawn
pub times-numbers_from : (x count first : ℕ) → times x (numbers_from count first) + drawn first x ≡ drawn (first + count) x
times-numbers_from x zero first = let same : first + 0 ≡ first = omega arith in rw same (omega arith)
times-numbers_from x (suc count) first =
    let rest = times-numbers_from x count (first + 1) in
    let same : (first + 1) + count ≡ first + suc count = omega arith in
    let next : times x (numbers_from count (first + 1)) + drawn (first + 1) x ≡ drawn (first + suc count) x = rw same at rest in
    let one = drawn-more first x in
    let cons = times-cons x first (numbers_from count (first + 1)) in
    omega (arith, next, one, cons)

stands_not : (x y : ℕ) (ys : List ℕ) → times x (y ∷ ys) ≤ 0 → (eqb x y ≡ false) × (times x ys ≤ 0)
stands_not x y ys none =
    let cons = times-cons x y ys in
    let zero_here : cond {A = ℕ} (eqb x y) 1 0 ≤ 0 = omega arith in
    (grind (arith, nat_tests), omega arith)

differ : (x : ℕ) (ys : List ℕ) → times x ys ≤ 0 → AllByRecursion (λ y. eqb x y ≡ false) ys
differ x [] none = tt
differ x (y ∷ ys) none = let h = stands_not x y ys none in (h.0, differ x ys h.1)

pub times-itself : (x : ℕ) → cond {A = ℕ} (eqb x x) 1 0 ≡ 1
times-itself x = grind (arith, nat_tests)

pub was_drawn : (next x : ℕ) → 1 ≤ drawn next x → x < next
was_drawn next x h = grind (arith, nat_tests)

once : (next x : ℕ) → drawn next x ≤ 1
once next x = grind (arith, nat_tests)

drawn_head : (next y : ℕ) (ys : List ℕ) → AreDrawn next (y ∷ ys) → (y < next) × (times y ys ≤ 0)
drawn_head next y ys h =
    let all : 1 + times y ys ≤ drawn next y = omega (arith, h y, times-cons y y ys, times-itself y) in
    (was_drawn next y (omega arith), omega (arith, once next y))

drawn_tail : (next y : ℕ) (ys : List ℕ) → AreDrawn next (y ∷ ys) → AreDrawn next ys
drawn_tail next y ys h = λ x. omega (arith, h x, times-cons x y ys)

pub below_next : (next : ℕ) (xs : List ℕ) → AreDrawn next xs → All (λ x. x < next) xs
below_next next [] h = All-nil (λ x. x < next)
below_next next (y ∷ ys) h = All-cons (λ x. x < next) y ys (drawn_head next y ys h).0 (below_next next ys (drawn_tail next y ys h))

pub distinct : (next : ℕ) (xs : List ℕ) → AreDrawn next xs → IsDistinct nat_eq xs
unfolding IsDistinct
distinct next [] h = tt
distinct next (y ∷ ys) h = (differ y ys (drawn_head next y ys h).1, distinct next ys (drawn_tail next y ys h))
