-- The walk through a bucket, from its greatest place to its least.
use Rattle.std.proofs.Common.{◌≡◌, ℕ, ◌-◌, ◌<◌, ◌≤◌, Bool, true, List, length, refl, sym, ap, subst, ◌∙◌, ◌⊎◌, inl, inr, arith}
use Rattle.std.specs.Prelude.{Option, Some, None}
use Rattle.std.specs.Option.{IsSomeAnd, IsSome}
use Rattle.row_index.specs.declared.placed.Placed.{Placed}
use Rattle.row_index.specs.Cuts.{bucket_of}
use Rattle.row_index.specs.Reach.{reach}
use Rattle.row_index.specs.Places.{Buckets, in_bucket, is_in, place_at}
use Rattle.row_index.specs.Search.{IsOffered}
use Rattle.row_index.proofs.Reaching.{reach_covers, reach_passes}
use Rattle.row_index.proofs.Threading.{in_within, in_own}

-- the walk stands at a place of the bucket
pub standing : (f : ℕ → Bool) (limit end : ℕ) → end ≡ reach f limit → 0 < end → f (end - 1) ≡ true
standing f limit end e lt = reach_passes f limit (end - 1) (sym e ∙ omega (arith, lt))

-- where the walk begins no place of the bucket is behind it
pub walk_begins : (places : List (Option Placed)) (bucket end place : ℕ) → end ≡ reach (in_bucket places bucket) (length places) → end ≤ place → in_bucket places bucket place ≡ true → ⊥
walk_begins places bucket end place is le e = let covers = reach_covers (in_bucket places bucket) (length places) place (in_within places bucket place e) e in omega (arith, covers, is, le)

cases : (a b : ℕ) → (a < b) ⊎ ((a ≡ b) ⊎ (b < a))
cases a b = grind arith

-- what holds of a place and of those behind it holds of all behind the next place
pub walk_on : (f : ℕ → Bool) (P : ℕ → Type 0) (place end : ℕ) → end ≡ reach f place → P place → ((other : ℕ) → place < other → f other ≡ true → P other)
    → (other : ℕ) → end ≤ other → f other ≡ true → P other
walk_on f P place end is here behind other le e = elim (cases other place) [
  | inl low ↦ absurd (passed low)
  | inr (inl same) ↦ subst P (sym same) here
  | inr (inr high) ↦ behind other high e
]
  where
    passed : other < place → ⊥
    passed low = let covers = reach_covers f place other low e in omega (arith, covers, is, le)

-- what is offered at a place is in the bucket of its fingerprint
pub offered_in : (chains : Buckets) (shape print bucket place : ℕ) → ((place : ℕ) (placed : Placed) → place_at chains.places place ≡ Some placed → placed.bucket ≡ bucket_of chains.count placed.print) → bucket ≡ bucket_of chains.count print
    → IsOffered chains.places shape print place → in_bucket chains.places bucket place ≡ true
offered_in chains shape print bucket place buckets is offered = offered_there (place_at chains.places place) (buckets place) (in_own chains.places place) offered
  where
    offered_there : (there : Option Placed) → ((placed : Placed) → there ≡ Some placed → placed.bucket ≡ bucket_of chains.count placed.print) → ((placed : Placed) → there ≡ Some placed → in_bucket chains.places placed.bucket place ≡ true)
        → IsSomeAnd there (λ placed. (placed.shape ≡ shape) × (placed.print ≡ print)) → in_bucket chains.places bucket place ≡ true
    offered_there None right own h = absurd h
    offered_there (Some placed) right own h =
        let same : placed.bucket ≡ bucket = right placed refl ∙ ap (bucket_of chains.count) h.1 ∙ sym is in
        subst (λ b. in_bucket chains.places b place ≡ true) same (own placed refl)

-- something is linked at a place of a bucket
pub used_there : (places : List (Option Placed)) (bucket place : ℕ) → in_bucket places bucket place ≡ true → IsSome (place_at places place)
used_there places bucket place e = some_in (place_at places place) e
  where
    some_in : (there : Option Placed) → is_in bucket there ≡ true → IsSome there
    some_in None e = cc
    some_in (Some placed) e = refl
