-- How many of the linked rows have each shape.
use Rattle.std.proofs.Common.{◌≡◌, ◌≢◌, ℕ, suc, zero, ◌+◌, ◌<◌, ◌≤◌, Bool, true, false, List, [], ◌∷◌, length, set, replicate, refl, sym, ap, subst, ◌∙◌, ◌⊎◌, inl, inr, arith}
use Rattle.std.specs.Prelude.{Option, Some, None, is_some, cond, eqb, nat_lt, count_by}
use Rattle.std.proofs.Math.ListN.{length-set}
use Rattle.std.proofs.lemmas.Bool.Decides.{nat_tests}
use Rattle.std.proofs.lemmas.List.{get_or-set_same, get_or-set_other}
use Rattle.std.proofs.lemmas.List.Sums.{sum_by-set, get_or-le-sum_by, count_by-le-length, sum_by-cons}
use Rattle.row_index.specs.declared.placed.Placed.{Placed}
use Rattle.row_index.specs.declared.shapes.Shape.{Shape}
use Rattle.row_index.specs.Index.{has_shape}
use Rattle.row_index.specs.Places.{place_at}
use Rattle.row_index.specs.Shapes.{rows_of, is_used, AllUsed}
use Rattle.row_index.proofs.Threading.{nat_cases}

one_cond : (b : Bool) → b ≡ true → ◌≡◌ {A = ℕ} (cond b 1 0) 1
one_cond true e = refl
one_cond false e = cc

none_cond : (b : Bool) → b ≡ false → ◌≡◌ {A = ℕ} (cond b 1 0) 0
none_cond true e = cc
none_cond false e = refl

pub place_within : (places : List (Option Placed)) (place : ℕ) (placed : Placed) → place_at places place ≡ Some placed → place < length places
place_within [] place placed e = cc
place_within (first ∷ places) zero placed e = omega arith
place_within (first ∷ places) (suc place) placed e = let ih = place_within places place placed e in omega (arith, ih)

pub counts_one : (shape : ℕ) (there : Option Placed) (placed : Placed) → there ≡ Some placed → placed.shape ≡ shape → ◌≡◌ {A = ℕ} (cond (has_shape shape there) 1 0) 1
counts_one shape there placed e is = ap (λ t. cond (has_shape shape t) 1 0) e ∙ one_cond (eqb placed.shape shape) (grind (arith, nat_tests, is))

pub counts_none : (shape : ℕ) (there : Option Placed) (placed : Placed) → there ≡ Some placed → placed.shape ≢ shape → ◌≡◌ {A = ℕ} (cond (has_shape shape there) 1 0) 0
counts_none shape there placed e ne = ap (λ t. cond (has_shape shape t) 1 0) e ∙ none_cond (eqb placed.shape shape) (grind (arith, nat_tests, ne))

pub counts_empty : (shape : ℕ) (there : Option Placed) → there ≡ None → ◌≡◌ {A = ℕ} (cond (has_shape shape there) 1 0) 0
counts_empty shape there e = ap (λ t. cond (has_shape shape t) 1 0) e

pub count_set : (shape : ℕ) (places : List (Option Placed)) (place : ℕ) (there : Option Placed) → place < length places
    → count_by (has_shape shape) (set places place there) + cond (has_shape shape (place_at places place)) 1 0 ≡ count_by (has_shape shape) places + cond (has_shape shape there) 1 0
count_set shape places place there lt = sum_by-set (λ other. cond (has_shape shape other) 1 0) places place there None lt

used_set : (places : List (Option Placed)) (place : ℕ) (there : Option Placed) → place < length places
    → count_by is_some (set places place there) + cond (is_some (place_at places place)) 1 0 ≡ count_by is_some places + cond (is_some there) 1 0
used_set places place there lt = sum_by-set (λ other. cond (is_some other) 1 0) places place there None lt

-- a row is counted in its shape
pub count_positive : (places : List (Option Placed)) (place : ℕ) (placed : Placed) → place_at places place ≡ Some placed → 0 < count_by (has_shape placed.shape) places
count_positive places place placed e =
    let le = get_or-le-sum_by (λ other. cond (has_shape placed.shape other) 1 0) places place None (place_within places place placed e) in
    let one = counts_one placed.shape (place_at places place) placed e refl in
    omega (arith, le, one)

pub used_more : (places : List (Option Placed)) (place : ℕ) (placed : Placed) → place < length places → place_at places place ≡ None → count_by is_some (set places place (Some placed)) ≡ count_by is_some places + 1
used_more places place placed lt free = let changed = rw free at (used_set places place (Some placed) lt) in omega (arith, changed)

pub used_less : (places : List (Option Placed)) (place : ℕ) (placed : Placed) → place_at places place ≡ Some placed → count_by is_some (set places place None) + 1 ≡ count_by is_some places
used_less places place placed there = let changed = rw there at (used_set places place None (place_within places place placed there)) in omega (arith, changed)

-- where a place is free not every place is used
pub used_room : (places : List (Option Placed)) (place : ℕ) → place < length places → place_at places place ≡ None → count_by is_some places < length places
used_room places place lt free =
    let placed : Placed = record { bucket = 0; shape = 0; print = 0 } in
    let more = used_more places place placed lt free in
    let most = count_by-le-length is_some (set places place (Some placed)) in
    let len = length-set places place (Some placed) in
    omega (arith, more, most, len)

-- and there is room to count one more
pub count_room : (shape : ℕ) (places : List (Option Placed)) (place : ℕ) → place < length places → place_at places place ≡ None → count_by (has_shape shape) places < length places
count_room shape places place lt free =
    let placed : Placed = record { bucket = 0; shape = shape; print = 0 } in
    let changed = count_set shape places place (Some placed) lt in
    let zero_there = counts_empty shape (place_at places place) free in
    let one = counts_one shape (Some placed) placed refl refl in
    let most = count_by-le-length (has_shape shape) (set places place (Some placed)) in
    let len = length-set places place (Some placed) in
    omega (arith, changed, zero_there, one, most, len)

pub there_after : (places : List (Option Placed)) (place : ℕ) (there : Option Placed) (other : ℕ) (placed : Placed) → place < length places
    → place_at (set places place there) other ≡ Some placed → ((other ≡ place) × (there ≡ Some placed)) ⊎ ((other ≢ place) × (place_at places other ≡ Some placed))
there_after places place there other placed lt e = elim (nat_cases other place) [
  | inl is ↦ inl (is, sym (get_or-set_same places place there None lt) ∙ subst (λ n. place_at (set places place there) n ≡ Some placed) is e)
  | inr ne ↦ inr (ne, sym (get_or-set_other places place other there None ne) ∙ e)
]

none_at : (n place : ℕ) → place_at (replicate n None) place ≡ None
none_at zero place = refl
none_at (suc n) zero = refl
none_at (suc n) (suc place) = none_at n place

pub nothing_there : (n place : ℕ) (placed : Placed) → place_at (replicate n None) place ≡ Some placed → ⊥
nothing_there n place placed e = let clash : None ≡ Some placed = sym (none_at n place) ∙ e in cc

pub not_linked : (n place : ℕ) → is_some (place_at (replicate n None) place) ≡ false
not_linked n place = ap is_some (none_at n place)

pub none_of_shape : (shape n : ℕ) → count_by (has_shape shape) (replicate n None) ≡ 0
none_of_shape shape zero = refl
none_of_shape shape (suc n) = let e = sum_by-cons (λ (t : Option Placed). cond (has_shape shape t) 1 0) None (replicate n None) in let ih = none_of_shape shape n in omega (arith, e, ih)

pub none_linked : (n : ℕ) → count_by (is_some {T = Placed}) (replicate n None) ≡ 0
none_linked zero = refl
none_linked (suc n) = let e = sum_by-cons (λ (t : Option Placed). cond (is_some t) 1 0) None (replicate n None) in let ih = none_linked n in omega (arith, e, ih)

used_weight : (n : ℕ) → cond (nat_lt 0 n) 1 0 ≤ n
used_weight zero = omega arith
used_weight (suc n) = cond_least (nat_lt 0 (suc n)) n
  where
    cond_least : (b : Bool) (n : ℕ) → cond b 1 0 ≤ suc n
    cond_least true n = omega arith
    cond_least false n = omega arith

-- there are no more used shapes than rows
pub used_least : (shapes : List Shape) → count_by is_used shapes ≤ rows_of shapes
used_least [] = omega arith
used_least (x ∷ shapes) =
    let count = sum_by-cons (λ (s : Shape). cond (is_used s) 1 0) x shapes in
    let rows = sum_by-cons (λ (s : Shape). s.count) x shapes in
    let one = used_weight x.count in
    let rest = used_least shapes in
    omega (arith, count, rows, one, rest)

-- where each shape has a row there are no more shapes than rows
pub all_used : (shapes : List Shape) → AllUsed shapes → length shapes ≤ rows_of shapes
all_used [] used = omega arith
all_used (first ∷ shapes) used =
    let ih = all_used shapes (λ place lt. used (suc place) (omega (arith, lt))) in
    let here = used 0 (omega arith) in
    let sum = sum_by-cons (λ (s : Shape). s.count) first shapes in
    omega (arith, ih, here, sum)
