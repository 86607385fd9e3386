-- The numbers of the lists that the definitions make, place by place.
use Rattle.std.proofs.Common.{◌≡◌, ◌≢◌, ℕ, zero, suc, ◌+◌, max, List, [], ◌∷◌, ap, refl, sym, ◌∙◌, arith}
use Rattle.std.proofs.Math.Nat.{max-eq_left, max-eq_right}
use Rattle.std.specs.Prelude.{slice_index}
use mathlib.Core.Option.{some, some-injective, some-ne-none}
use lib.ListN.{get_elem?}
use Rattle.counter_bank.specs.Figures.{add_at, raise_at, sums, greater}

pub add_at_here : (xs : List ℕ) (i k : ℕ) → slice_index (add_at xs i k) i ≡ slice_index xs i + k
unfolding add_at
add_at_here [] zero k = omega arith
add_at_here [] (suc i) k = add_at_here [] i k
add_at_here (x ∷ xs) zero k = refl
add_at_here (x ∷ xs) (suc i) k = add_at_here xs i k

pub add_at_else : (xs : List ℕ) (i j k : ℕ) → j ≢ i → slice_index (add_at xs i k) j ≡ slice_index xs j
unfolding add_at
add_at_else [] zero zero k ne = absurd (ne refl)
add_at_else [] zero (suc j) k ne = refl
add_at_else [] (suc i) zero k ne = refl
add_at_else [] (suc i) (suc j) k ne = add_at_else [] i j k (λ e. ne (ap suc e))
add_at_else (x ∷ xs) zero zero k ne = absurd (ne refl)
add_at_else (x ∷ xs) zero (suc j) k ne = refl
add_at_else (x ∷ xs) (suc i) zero k ne = refl
add_at_else (x ∷ xs) (suc i) (suc j) k ne = add_at_else xs i j k (λ e. ne (ap suc e))

pub raise_at_here : (xs : List ℕ) (i n : ℕ) → slice_index (raise_at xs i n) i ≡ max (slice_index xs i) n
unfolding raise_at
raise_at_here [] zero n = sym (max-eq_right (omega arith))
raise_at_here [] (suc i) n = raise_at_here [] i n
raise_at_here (x ∷ xs) zero n = refl
raise_at_here (x ∷ xs) (suc i) n = raise_at_here xs i n

pub raise_at_else : (xs : List ℕ) (i j n : ℕ) → j ≢ i → slice_index (raise_at xs i n) j ≡ slice_index xs j
unfolding raise_at
raise_at_else [] zero zero n ne = absurd (ne refl)
raise_at_else [] zero (suc j) n ne = refl
raise_at_else [] (suc i) zero n ne = refl
raise_at_else [] (suc i) (suc j) n ne = raise_at_else [] i j n (λ e. ne (ap suc e))
raise_at_else (x ∷ xs) zero zero n ne = absurd (ne refl)
raise_at_else (x ∷ xs) zero (suc j) n ne = refl
raise_at_else (x ∷ xs) (suc i) zero n ne = refl
raise_at_else (x ∷ xs) (suc i) (suc j) n ne = raise_at_else xs i j n (λ e. ne (ap suc e))

pub at_sums : (xs ys : List ℕ) (i : ℕ) → slice_index (sums xs ys) i ≡ slice_index xs i + slice_index ys i
unfolding sums
at_sums [] ys i = omega arith
at_sums (x ∷ xs) [] i = omega arith
at_sums (x ∷ xs) (y ∷ ys) zero = refl
at_sums (x ∷ xs) (y ∷ ys) (suc i) = at_sums xs ys i

pub at_greater : (xs ys : List ℕ) (i : ℕ) → slice_index (greater xs ys) i ≡ max (slice_index xs i) (slice_index ys i)
unfolding greater
at_greater [] ys i = sym (max-eq_right (omega arith))
at_greater (x ∷ xs) [] i = sym (max-eq_left (omega arith))
at_greater (x ∷ xs) (y ∷ ys) zero = refl
at_greater (x ∷ xs) (y ∷ ys) (suc i) = at_greater xs ys i

-- a number that stands at a place is what is read there
pub found : (xs ys : List ℕ) (i x : ℕ) → xs ≡ ys → get_elem? xs i ≡ some x → x ≡ slice_index ys i
found xs ys i x e at = sym (reads xs i x at) ∙ ap (λ l. slice_index l i) e
  where
    reads : (l : List ℕ) (k y : ℕ) → get_elem? l k ≡ some y → slice_index l k ≡ y
    reads [] k y h = absurd (some-ne-none y (sym h))
    reads (z ∷ zs) zero y h = some-injective z y h
    reads (z ∷ zs) (suc k) y h = reads zs k y h
