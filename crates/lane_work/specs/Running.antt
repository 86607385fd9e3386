-- The work of a lane beside the packets that it was given (this project's profile).
use Rattle.std.specs.Prelude.{◌≡◌, ℕ, ◌≤◌, List, [], ◌∷◌, map}
use Rattle.std.specs.List.{AllZip}
use Rattle.list_types.specs.declared.memory.Refusal.{Refusal}
use Rattle.list_types.specs.declared.memory.Refusal.TheVariants.{NoMemory, For}
use Rattle.lane_work.specs.Shares.{Share, IsShare, outcomes}
use Rattle.lane_work.specs.Work.{Work}
use Rattle.p4_types.specs.declared.records.Record.{Record}
use Rattle.pub_snap.specs.Beginnings.{Begins}
use Rattle.snap_worker.specs.Working.{one_more}
use Rattle.snap_worker.specs.declared.worker.NoEntry.{NoEntry}
use Rattle.switch_spec.specs.Counts.{Arrival, Carried}

-- A packet was not run: without a snapshot the count of refusals rose, without memory nothing changed.
abbrev pub IsRefused : Refusal NoEntry → Work → Work → Type 0
IsRefused (For none) before after = after ≡ record before { refusals = one_more before.refusals }
IsRefused NoMemory before after = after ≡ before

-- packets beside their records, in their order
abbrev pub beside : List Arrival → List Record → List Carried
beside [] records = []
beside (arrival ∷ arrivals) [] = []
beside (arrival ∷ arrivals) (r ∷ records) = (record { arrival = arrival; outcome = r }) ∷ beside arrivals records

-- what a lane carried that was given these packets
abbrev pub share_of : List Arrival → Work → Share
share_of arrivals work = record { who = work.who; carried = beside arrivals work.records; seat = work.seat }

-- The lane was given these packets, each to be run after at least so many steps. It has a record of each, which fits all
-- that it has seen and learnt, and its seat added what they hit.
pub record IsWork (arrivals : List Arrival) (least : List ℕ) (work : Work) : Type 0 where
  pub arrived : map (λ (c : Carried). c.arrival) (beside arrivals work.records) ≡ arrivals
  pub recorded : outcomes (beside arrivals work.records) ≡ work.records
  pub late_enough : AllZip (λ (n : ℕ) (r : Record). n ≤ r.steps) least work.records
  pub share : IsShare work.told.start work.told.events (share_of arrivals work)

-- the same lane, whose records and counts stay, perhaps told of more
pub record Keeps (before after : Work) : Type 0 where
  pub who : after.who ≡ before.who
  pub told : Begins before.told after.told
  pub records : after.records ≡ before.records
  pub added : after.seat.added ≡ before.seat.added
