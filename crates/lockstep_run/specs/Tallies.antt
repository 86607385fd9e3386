-- Counts kept beside a list.
use Rattle.std.specs.Prelude.{◌≡◌, ℕ, ◌<◌, Bool, List, slice_index, count_by}
use Rattle.p4_types.specs.declared.records.Record.{Record}
use Rattle.p4_types.specs.declared.tape.Who.{Who}
use Rattle.p4_types.specs.declared.tape.Who.TheVariants.{Controller, Worker}
use Rattle.switch_spec.specs.Carrying.{is_who}

-- at each of n places stands how many items the test of that place counts
abbrev pub Tallies : {X : Type 0} → (ℕ → X → Bool) → ℕ → List ℕ → List X → Type 0
Tallies test n counts items = (place : ℕ) → place < n → slice_index counts place ≡ count_by (test place) items

-- the packets of each lane are counted: those of the workers, and those of the controllers
pub record AreTallied (workers controllers : List ℕ) (records : List Record) : Type 0 where
  pub of_workers : Tallies (λ lane r. is_who (Worker lane) r.who) 16 workers records
  pub of_controllers : Tallies (λ lane r. is_who (Controller lane) r.who) 32 controllers records

-- a lane that there is
abbrev pub IsLane : Who → Type 0
IsLane (Worker lane) = lane < 16
IsLane (Controller lane) = lane < 32
