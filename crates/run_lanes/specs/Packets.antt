-- What a worker's lane was given, and what became of it (this project's profile).
use Rattle.std.specs.Prelude.{◌≡◌, ℕ, ◌<◌, ◌≤◌, max, Bool, true, false, List, [], ◌∷◌, ◌++◌, length, map, Option, Some, None}
use Rattle.std.specs.List.{filter_map, AllByRecursion}
use Rattle.counter_bank.specs.Account.{BankId}
use Rattle.ctl_lock.specs.Finishing.{Meeting}
use Rattle.ctl_lock.specs.Passing.{IsOwn, RunsAtLast, SameLane}
use Rattle.ctl_lock.specs.declared.desk.Asked.{Asked}
use Rattle.ctl_lock.specs.declared.desk.Asked.TheVariants as asked
use Rattle.event_log.specs.Lists.{ListName}
use Rattle.lane_work.specs.Running.{IsWork}
use Rattle.lane_work.specs.Work.{Work, steps_told}
use Rattle.p4_types.specs.declared.events.Start.{Start}
use Rattle.p4_types.specs.declared.tape.Who.TheVariants.{Worker}
use Rattle.pub_snap.specs.Beginnings.{Begins}
use Rattle.switch_spec.specs.Counts.{Arrival}
use Rattle.switch_spec.specs.declared.calls.WorkerItem.{WorkerItem}
use Rattle.switch_spec.specs.declared.calls.WorkerItem.TheVariants.{Brings, Meets}

-- the packet that an item brings
abbrev pub brought : WorkerItem → Option Arrival
brought (Brings port packet) = Some (port, packet)
brought (Meets controller call) = None

-- whether a packet is next
abbrev pub is_packet_next : List WorkerItem → Bool
is_packet_next [] = false
is_packet_next (Brings port packet ∷ items) = true
is_packet_next (Meets controller call ∷ items) = false

-- the call that an item waits for: its lane and its number
abbrev pub awaited : WorkerItem → Option (ℕ × ℕ)
awaited (Brings port packet) = None
awaited (Meets controller call) = Some (controller, call)

-- the lane and the number of a call that was met
abbrev pub call_met : Meeting → ℕ × ℕ
call_met met = (met.lane, met.call)

-- the steps that were told at least behind these meets, from so many on
abbrev pub steps_met : ℕ → List Meeting → ℕ
steps_met n [] = n
steps_met n (met ∷ mets) = steps_met (max n (steps_told met.told)) mets

-- of each packet, the steps that it is after at least: those that the meets before it told
abbrev pub least_behind : ℕ → List WorkerItem → List Meeting → List ℕ
least_behind n [] mets = []
least_behind n (Brings port packet ∷ items) mets = n ∷ least_behind n items mets
least_behind n (Meets controller call ∷ items) [] = least_behind n items []
least_behind n (Meets controller call ∷ items) (met ∷ mets) = least_behind (max n (steps_told met.told)) items mets

-- The lane took a beginning of what it was given: it ran the packets, each after at least what the meets before it told.
pub record IsPacketPass (list : ListName) (start : Start) (bank : BankId) (lane : ℕ) (items todo : List WorkerItem) (mets : List Meeting) (work : Work) : Type 0 where
  pub taken : List WorkerItem
  pub own : IsOwn list start bank (Worker lane) work
  pub items_are : taken ++ todo ≡ items
  pub mets_are : filter_map awaited taken ≡ map call_met mets
  pub work_is : IsWork (filter_map brought taken) (least_behind 0 taken mets) work
  pub learnt : steps_met 0 mets ≤ steps_told work.told

-- so it is unless the lane found no memory
abbrev pub PassesPackets : Bool → ListName → Start → BankId → ℕ → List WorkerItem → List WorkerItem → List Meeting → Work → Type 0
PassesPackets true list start bank lane items todo mets work = Unit {0}
PassesPackets false list start bank lane items todo mets work = IsPacketPass list start bank lane items todo mets work

-- what is seen of what runs the packets of a lane
pub record PacketPassing : Type 0 where
  pub lane : ℕ
  -- what it still has to take
  pub todo : List WorkerItem
  -- the calls that it met
  pub mets : List Meeting
  -- what it has done
  pub work : Work
  -- whether it found no memory
  pub failed : Bool

-- the lane took its next item
pub record IsNextItem (before after : PacketPassing) : Type 0 where
  pub item : WorkerItem
  pub next : before.todo ≡ item ∷ after.todo
  pub whole : after.failed ≡ false

-- what asking for the next item came to
abbrev pub IsTaken : Asked → PacketPassing → PacketPassing → Type 0
IsTaken asked.Made before after = IsNextItem before after
IsTaken asked.AllMade before after = (before.todo ≡ []) × (after ≡ before)
IsTaken asked.NoMemory before after = after.failed ≡ true

-- the lane waited for a call, and learnt what was told then
pub record Awaits (controller call : ℕ) (mets mets' : List Meeting) (before after : Work) : Type 0 where
  pub met : Meeting
  pub more : mets' ≡ mets ++ met ∷ []
  pub lane_is : met.lane ≡ controller
  pub call_is : met.call ≡ call
  pub own : Begins before.told after.told
  pub learnt : Begins met.told after.told
  pub others : after ≡ record before { told = after.told }

-- the lane ran a packet
pub record RunsPacket (port : ℕ) (packet : List ℕ) (mets mets' : List Meeting) (before after : Work) : Type 0 where
  pub same : mets' ≡ mets
  pub ran : RunsAtLast port packet before after
  pub lane : SameLane before after

-- the lane took an item
abbrev pub Takes : WorkerItem → List Meeting → List Meeting → Work → Work → Type 0
Takes (Brings port packet) mets mets' before after = RunsPacket port packet mets mets' before after
Takes (Meets controller call) mets mets' before after = Awaits controller call mets mets' before after
