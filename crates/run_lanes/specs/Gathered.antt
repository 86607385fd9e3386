-- All lanes of a run at its end, beside its journal, and that they are a run of the tape (this project's profile).
use Rattle.std.specs.Prelude.{◌≡◌, ℕ, zero, suc, ◌≤◌, List, [], ◌∷◌, ◌++◌, map}
use Rattle.std.specs.List.{filter_map, AllByRecursion}
use Rattle.ctl_lock.specs.Finishing.{Meeting}
use Rattle.ctl_lock.specs.Passing.{entering}
use Rattle.ctl_lock.specs.Reading.{IsReading}
use Rattle.snap_worker.specs.Sums.{noted_by}
use Rattle.ctl_lock.specs.declared.signed.Signed.{Signed}
use Rattle.lane_table.specs.Lanes.{of_lane}
use Rattle.lane_work.specs.Running.{beside, IsWork}
use Rattle.lane_work.specs.Shares.{Share, joined}
use Rattle.lane_work.specs.Work.{Work, steps_told}
use Rattle.p4_types.specs.declared.events.Start.{Start}
use Rattle.p4_types.specs.declared.tape.TapeRecord.{TapeRecord}
use Rattle.p4_types.specs.declared.tape.Who.TheVariants.{Controller, Worker}
use Rattle.plane_spec.specs.Legal.{Legal}
use Rattle.plane_spec.specs.Planes.{opened}
use Rattle.pub_snap.specs.Beginnings.{Beginning, Begins}
use Rattle.run_lanes.specs.Packets.{awaited, brought, call_met, least_behind}
use Rattle.run_spec.specs.Report.{IsRun}
use Rattle.run_spec.specs.Tape.{IsRecord}
use Rattle.switch_spec.specs.Carrying.{made_on, made_with_packet, packets_out, steps_through}
use Rattle.switch_spec.specs.History.{Made, History, Numbered, published}
use Rattle.switch_spec.specs.declared.calls.LaneCall.{LaneCall}
use Rattle.switch_spec.specs.declared.calls.WorkerItem.{WorkerItem}
use Rattle.tape_lanes.specs.Lanes.{calls_in, items_in}

-- A controller's lane made its calls, and ran each packet that they made enter, after at least the steps through its call.
pub record HasCalled (last : Beginning) (calls : ℕ → List LaneCall) (journal : List Made) (lane : ℕ) (work : Work) : Type 0 where
  pub calls_are : map (λ (made : Made). made.call) (made_on lane journal) ≡ calls lane
  pub work_is : IsWork (packets_out last.start lane journal) (map (λ (made : Made). made.entry.reply.steps) (made_with_packet lane journal)) work
  pub who_is : work.who ≡ Controller lane
  pub told : Begins work.told last

-- The figures of a lane's calls are sums, each at least the one before it with what the lane's own packets have counted since.
abbrev pub HasRead : Start → List Signed → ℕ → Work → Type 0
HasRead start journal lane work =
    let made = of_lane (λ (signed : Signed). signed.entry.lane) lane journal in
    IsReading made (beside (entering start made) work.records) (noted_by work.seat)

-- the steps through a call that was met were told
abbrev pub IsThrough : List Made → Meeting → Type 0
IsThrough journal met = steps_through met.lane met.call journal ≤ steps_told met.told

-- A worker's lane ran its packets, each after at least what the meets before it told, which have the steps through their calls.
pub record HasCarried (last : Beginning) (items : ℕ → List WorkerItem) (journal : List Made) (lane : ℕ) (work : Work) : Type 0 where
  pub mets : List Meeting
  pub mets_are : filter_map awaited (items lane) ≡ map call_met mets
  pub through : AllByRecursion (IsThrough journal) mets
  pub work_is : IsWork (filter_map brought (items lane)) (least_behind 0 (items lane) mets) work
  pub who_is : work.who ≡ Worker lane
  pub told : Begins work.told last

-- so it is of each lane below a number, the highest first
abbrev pub OfEach : {A : Type 0} → (ℕ → A → Type 0) → ℕ → List A → Type 0
OfEach P zero [] = Unit {0}
OfEach P zero (x ∷ xs) = ⊥
OfEach P (suc lane) [] = ⊥
OfEach P (suc lane) (x ∷ xs) = P lane x × OfEach P lane xs

-- what a controller's lane carried
abbrev pub caller_share : Start → List Made → ℕ → Work → Share
caller_share start journal lane work = record { who = work.who; carried = beside (packets_out start lane journal) work.records; seat = work.seat }

-- what a worker's lane carried
abbrev pub worker_share : (ℕ → List WorkerItem) → ℕ → Work → Share
worker_share items lane work = record { who = work.who; carried = beside (filter_map brought (items lane)) work.records; seat = work.seat }

-- what lanes below a number carried, the highest first
abbrev pub shares_of : (ℕ → Work → Share) → ℕ → List Work → List Share
shares_of share zero works = []
shares_of share (suc lane) [] = []
shares_of share (suc lane) (work ∷ works) = share lane work ∷ shares_of share lane works

-- what all lanes carried: the workers', then the controllers'
abbrev pub all_shares : Start → List TapeRecord → List Made → List Work → List Work → List Share
all_shares start tape journal callers workers = shares_of (worker_share (items_in tape)) 16 workers ++ shares_of (caller_share start journal) 32 callers

-- All lanes are at their ends: the journal is a history, this is the whole published list, and no other lane has made a call.
pub record AreGathered (start : Start) (tape : List TapeRecord) (journal : List Made) (last : Beginning) (callers workers : List Work) : Type 0 where
  pub records : AllByRecursion IsRecord tape
  pub numbered : Numbered [] (map (λ (made : Made). made.entry) journal)
  pub history : History (opened start) 0 journal
  pub start_is : last.start ≡ start
  pub list_is : last.events ≡ published start journal
  pub legal : Legal (opened start) (published start journal)
  pub others : (lane : ℕ) → 32 ≤ lane → made_on lane journal ≡ []
  pub called : OfEach (HasCalled last (calls_in tape) journal) 32 callers
  pub carried : OfEach (HasCarried last (items_in tape) journal) 16 workers

-- the law: journal and records of lanes that are at their ends are a run of the tape
abbrev pub LanesMakeARun : Type 0
LanesMakeARun = (start : Start) (tape : List TapeRecord) (journal : List Made) (last : Beginning) (callers workers : List Work) → AreGathered start tape journal last callers workers
    → IsRun start tape journal (joined (all_shares start tape journal callers workers))
