-- What the lanes of a run begin with (this project's profile).
use Rattle.std.specs.Prelude.{◌≡◌, ℕ, ◌-◌, List, [], length, replicate}
use Rattle.std.specs.List.{AllByRecursion}
use Rattle.counter_bank.specs.Account.{Account, BankId, first_seat}
use Rattle.lane_table.specs.Lanes.{seats_from}
use Rattle.ctl_lock.specs.Locked.{seat_of}
use Rattle.ctl_lock.specs.Passing.{Passing}
use Rattle.event_log.specs.Lists.{ListName}
use Rattle.p4_types.specs.declared.events.Start.{Start}
use Rattle.p4_types.specs.declared.tape.TapeRecord.{TapeRecord}
use Rattle.p4_types.specs.declared.tape.TapeRecord.TheVariants.{Call, Packet, Leave, Meet}
use Rattle.p4_types.specs.declared.tape.Who.{Who}
use Rattle.p4_types.specs.declared.tape.Who.TheVariants.{Controller, Worker}
use Rattle.plane_spec.specs.Planes.{opened}
use Rattle.pub_snap.specs.Snapshots.{Feed, Sight}
use Rattle.replay_run.specs.declared.opening.Post.{Post}
use Rattle.replay_run.specs.declared.parts.Parts.{Parts}
use Rattle.run_lanes.specs.Packets.{PacketPassing}

-- the seat once so many of its parts were given away
abbrev pub without_parts : ℕ → Account → Account
without_parts n a = record { bank = a.bank; parts = a.parts - n; added = a.added; noted = a.noted }

-- a viewer of the run's list
pub record SeesRun (list : ListName) (start : Start) (viewer : Sight) : Type 0 where
  pub list_is : viewer.told.list ≡ list
  pub start_is : viewer.told.start ≡ start

-- a viewer of the run's list, and a part of its counters by which nothing was counted
pub record IsPost (list : ListName) (start : Start) (bank : BankId) (post : Post) : Type 0 where
  pub sees : SeesRun list start post.viewer
  pub bank_is : post.seat.bank ≡ bank
  pub one_part : post.seat.parts ≡ 1
  pub nothing : post.seat.added ≡ []

-- the pass of a controller's lane
abbrev pub IsAsker : ℕ → Passing → Type 0
IsAsker lane pass = pass.lane ≡ lane

-- the pass of a worker's lane
abbrev pub IsTaker : ℕ → PacketPassing → Type 0
IsTaker lane pass = pass.lane ≡ lane

-- What a run stands on before its first call: nothing is published, the control state is that of its start, each of its 48
-- lanes has a viewer of the list, each controller's lane has a place in the journal, and all parts of the counters are there.
pub record AreParts (start : Start) (publisher : Feed) (parts : Parts) : Type 0 where
  pub start_is : publisher.told.start ≡ start
  pub nothing : publisher.told.events ≡ []
  pub none_pending : publisher.pending ≡ []
  pub control_is : parts.control.control ≡ opened start
  pub no_step : parts.control.steps ≡ 0
  pub no_call : parts.control.calls ≡ replicate 32 0
  pub viewers : AllByRecursion (SeesRun publisher.told.list start) parts.viewers.items
  pub many : length parts.viewers.items ≡ 48
  pub slots : parts.bank.slots ≡ start.slots
  pub rest_is : parts.rest ≡ first_seat parts.bank.id
  pub journal_is : parts.journal ≡ seat_of parts.table []
  pub lanes_are : parts.lanes.items ≡ seats_from parts.table 32

-- the lane of a record of a tape
abbrev pub who_of : TapeRecord → Who
who_of (Call lane method message) = Controller lane
who_of (Leave lane) = Controller lane
who_of (Packet lane port packet) = Worker lane
who_of (Meet lane controller call) = Worker lane
