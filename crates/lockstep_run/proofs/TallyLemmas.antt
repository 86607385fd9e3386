-- Counts kept beside a list.
use Rattle.std.proofs.Common.{◌≡◌, ℕ, zero, suc, Bool, [], refl}
use Rattle.std.specs.Prelude.{replicate, slice_index}
use Rattle.lockstep_run.specs.Tallies.{Tallies}

zeros : (n place : ℕ) → slice_index (replicate n 0) place ≡ 0
zeros zero place = refl
zeros (suc n) zero = refl
zeros (suc n) (suc place) = zeros n place

-- of no item nothing is counted
pub tallies_none : {X : Type 0} (test : ℕ → X → Bool) (n : ℕ) → Tallies test n (replicate n 0) []
tallies_none test n place within = zeros n place
