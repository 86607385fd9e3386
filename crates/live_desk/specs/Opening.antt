-- What the callers of a desk begin with (this project's profile).
use Rattle.std.specs.Prelude.{◌≡◌, ℕ, zero, suc, ◌≤◌, ◌-◌, List, [], ◌∷◌, length, replicate}
use Rattle.std.specs.List.{AllByRecursion}
use Rattle.counter_bank.specs.Account.{Account, BankId, first_seat}
use Rattle.event_log.specs.Lists.{ListName}
use Rattle.lane_table.specs.Lanes.{seats_from}
use Rattle.live_desk.specs.Locked.{seat_of}
use Rattle.live_desk.specs.Passing.{Passing}
use Rattle.live_desk.specs.declared.parts.Parts.{Parts}
use Rattle.p4_types.specs.declared.events.Start.{Start}
use Rattle.pub_snap.specs.Beginnings.{Beginning}
use Rattle.plane_spec.specs.Planes.{opened}
use Rattle.pub_snap.specs.Snapshots.{Feed, Sight}
use Rattle.snap_worker.specs.Working.{Working}

-- the desk's list, with its start alone
pub record IsStart (list : ListName) (start : Start) (told : Beginning) : Type 0 where
  pub list_is : told.list ≡ list
  pub start_is : told.start ≡ start
  pub nothing : told.events ≡ []

-- a viewer that has seen the start alone
abbrev pub SeesStart : ListName → Start → Sight → Type 0
SeesStart list start viewer = IsStart list start viewer.told

-- a worker that has seen the start alone, with a part of the counters by which nothing was counted
pub record IsFresh (list : ListName) (start : Start) (bank : BankId) (worker : Working) : Type 0 where
  pub sees : IsStart list start worker.told
  pub bank_is : worker.seat.bank ≡ bank
  pub one_part : worker.seat.parts ≡ 1
  pub nothing : worker.seat.added ≡ []

-- a pass that has made no call, whose worker is so
pub record IsNew (list : ListName) (start : Start) (bank : BankId) (pass : Passing) : Type 0 where
  pub worker : IsFresh list start bank pass.worker
  pub calls : pass.calls ≡ 0
  pub last : pass.last ≡ pass.worker.told
  pub nothing : pass.waiting ≡ []

-- the seat once so many of its parts were given away
abbrev pub without_parts : ℕ → Account → Account
without_parts n seat = record { bank = seat.bank; parts = seat.parts - n; added = seat.added; noted = seat.noted }

-- the lanes below a number, the highest first
abbrev pub lanes_below : ℕ → List ℕ
lanes_below zero = []
lanes_below (suc lane) = lane ∷ lanes_below lane

-- What a desk stands on before its first call: nothing is published, the control state is that of its start, each of its callers
-- and workers has a viewer of the list, each caller has a place in the table of lanes, and all parts of the counters are there.
pub record AreParts (start : Start) (publisher : Feed) (parts : Parts) : Type 0 where
  pub start_is : publisher.told.start ≡ start
  pub nothing : publisher.told.events ≡ []
  pub none_pending : publisher.pending ≡ []
  pub control_is : parts.control.control ≡ opened start
  pub no_step : parts.control.steps ≡ 0
  pub no_call : parts.control.calls ≡ replicate 32 0
  pub viewers : AllByRecursion (SeesStart publisher.told.list start) parts.viewers.items
  pub many : 32 ≤ length parts.viewers.items
  pub few : length parts.viewers.items ≤ 48
  pub slots : parts.bank.slots ≡ start.slots
  pub rest_is : parts.rest ≡ first_seat parts.bank.id
  pub seat_is : parts.seat ≡ seat_of parts.table []
  pub places_are : parts.places.items ≡ seats_from parts.table 32
