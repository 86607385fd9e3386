-- Chains at which nothing is linked.
use Rattle.std.proofs.Common.{◌≡◌, ℕ, suc, zero, ◌+◌, ◌<◌, ◌^◌, Bool, true, false, [], ◌∷◌, ◌++◌, get_or, replicate, refl, sym, ap, ◌∙◌, add-one, arith}
use Rattle.std.specs.Prelude.{Option, None}
use Rattle.std.proofs.lemmas.List.{length-replicate}
use Rattle.row_index.specs.declared.placed.Placed.{Placed}
use Rattle.row_index.specs.Reach.{reach}
use Rattle.row_index.specs.Places.{in_bucket, place_at}
use Rattle.row_index.specs.Threads.{Threaded}

pub replicate_more : {A : Type 0} (n : ℕ) (a : A) → replicate n a ++ a ∷ [] ≡ replicate (n + 1) a
replicate_more zero a = refl
replicate_more (suc n) a = rw (add-one (suc n)) (ap (λ xs. a ∷ xs) (rw (add-one n) at (replicate_more n a)))

none_at : (n place : ℕ) → place_at (replicate n None) place ≡ None
none_at zero place = refl
none_at (suc n) zero = refl
none_at (suc n) (suc place) = none_at n place

none_in : (n bucket place : ℕ) → in_bucket (replicate n None) bucket place ≡ false
none_in n bucket place = rw (none_at n place) refl

pub zero_at : (n place : ℕ) → ◌≡◌ {A = ℕ} (get_or (replicate n 0) place 0) 0
zero_at zero place = refl
zero_at (suc n) zero = refl
zero_at (suc n) (suc place) = zero_at n place

reach_none : (f : ℕ → Bool) (limit : ℕ) → ((place : ℕ) → f place ≡ false) → reach f limit ≡ 0
reach_none f zero h = refl
reach_none f (suc limit) h = rw (h limit) (reach_none f limit h)

clash : (b : Bool) → b ≡ true → b ≡ false → ⊥
clash true e n = cc
clash false e n = cc

pub threaded_opened : (buckets places : ℕ) → buckets < 2 ^ 32 → places < 2 ^ 32 → Threaded (replicate buckets 0) (replicate places 0) (replicate places None)
threaded_opened buckets places few_buckets few_places =
    let heads = length-replicate {A = ℕ} buckets 0 in
    let links = length-replicate {A = ℕ} places 0 in
    let none : Option Placed = None in
    let items = length-replicate places none in
    record {
      head = λ bucket lt. zero_at buckets bucket ∙ sym (reach_none (in_bucket (replicate places None) bucket) _ (none_in places bucket));
      link = λ bucket place e. absurd (clash _ e (none_in places bucket place));
      within = λ bucket place e. absurd (clash _ e (none_in places bucket place));
      linked = omega (arith, links, items);
      few = omega (arith, items, few_places);
      few_heads = omega (arith, heads, few_buckets);
    }
