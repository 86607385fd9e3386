-- What makes the calls of a lane, and what became of them (this project's profile).
use Rattle.std.specs.Prelude.{◌≡◌, ℕ, Bool, true, false, List, [], ◌∷◌, ◌++◌, map, filter, Option, Some, None, is_some}
use Rattle.std.specs.List.{filter_map}
use Rattle.counter_bank.specs.Account.{BankId}
use Rattle.ctl_lock.specs.Calls.{journal_of}
use Rattle.ctl_lock.specs.Reading.{IsReading}
use Rattle.snap_worker.specs.Sums.{noted_by}
use Rattle.ctl_lock.specs.declared.desk.Asked.{Asked}
use Rattle.ctl_lock.specs.declared.desk.Asked.TheVariants as asked
use Rattle.ctl_lock.specs.declared.signed.Signed.{Signed}
use Rattle.event_log.specs.Lists.{ListName}
use Rattle.lane_work.specs.Running.{beside, IsWork}
use Rattle.lane_work.specs.Work.{Work, Ran}
use Rattle.p4_types.specs.declared.events.Start.{Start}
use Rattle.p4_types.specs.declared.tape.Who.{Who}
use Rattle.p4_types.specs.declared.tape.Who.TheVariants.{Controller}
use Rattle.pub_snap.specs.Beginnings.{Beginning, Begins}
use Rattle.switch_spec.specs.Carrying.{packet_out}
use Rattle.switch_spec.specs.Counts.{Arrival}
use Rattle.switch_spec.specs.declared.calls.LaneCall.{LaneCall}

-- the packets that calls made enter
abbrev pub entering : Start → List Signed → List Arrival
entering start made = filter_map (packet_out start) (journal_of made)

-- the steps after which each of them is at least: those through its call
abbrev pub least_of : List Signed → List ℕ
least_of made = map (λ made. made.entry.reply.steps) (filter (λ made. is_some made.entry.reply.packet) (journal_of made))

-- the work is that of a lane of the run
pub record IsOwn (list : ListName) (start : Start) (bank : BankId) (who : Who) (work : Work) : Type 0 where
  pub who_is : work.who ≡ who
  pub list_is : work.told.list ≡ list
  pub start_is : work.told.start ≡ start
  pub bank_is : work.seat.bank ≡ bank
  pub one_part : work.seat.parts ≡ 1

-- The lane made a beginning of its calls, and ran each packet that they made enter; its figures are told in turns.
pub record IsPass (list : ListName) (start : Start) (bank : BankId) (lane : ℕ) (calls : List LaneCall) (made : List Signed) (todo : List LaneCall) (work : Work) : Type 0 where
  pub own : IsOwn list start bank (Controller lane) work
  pub calls_are : map (λ (signed : Signed). signed.call) made ++ todo ≡ calls
  pub work_is : IsWork (entering start made) (least_of made) work
  pub reading : IsReading made (beside (entering start made) work.records) (noted_by work.seat)

-- so it is unless the lane found no memory for a call or for the record of a packet
abbrev pub Passes : Bool → ListName → Start → BankId → ℕ → List LaneCall → List Signed → List LaneCall → Work → Type 0
Passes true list start bank lane calls made todo work = Unit {0}
Passes false list start bank lane calls made todo work = IsPass list start bank lane calls made todo work

-- what is seen of what makes the calls of a lane
pub record Passing : Type 0 where
  pub lane : ℕ
  -- the calls that it made, as they were signed
  pub made : List Signed
  -- those that it still has to make
  pub todo : List LaneCall
  -- what it has done
  pub work : Work
  -- whether it found no memory
  pub failed : Bool

-- the lane made its next call
pub record IsNextCall (before after : Passing) : Type 0 where
  pub signed : Signed
  pub call : before.todo ≡ signed.call ∷ after.todo
  pub made : after.made ≡ before.made ++ signed ∷ []
  pub whole : after.failed ≡ false

-- what asking for the next call came to
abbrev pub IsAsked : Asked → Passing → Passing → Type 0
IsAsked asked.Made before after = IsNextCall before after
IsAsked asked.AllMade before after = (before.todo ≡ []) × (after ≡ before)
IsAsked asked.NoMemory before after = after.failed ≡ true

-- The lane ran a packet, perhaps once it was refused.
pub record RunsAtLast (port : ℕ) (packet : List ℕ) (before after : Work) : Type 0 where
  pub refusals : ℕ
  pub ran : Ran port packet (record before { refusals = refusals }) after

-- it is told of the same list, and counts by the same part of the bank
pub record SameLane (before after : Work) : Type 0 where
  pub list : after.told.list ≡ before.told.list
  pub start : after.told.start ≡ before.told.start
  pub bank : after.seat.bank ≡ before.seat.bank
  pub parts : after.seat.parts ≡ before.seat.parts

-- The lane ran a packet once it was told of this.
pub record RunsOut (port : ℕ) (packet : List ℕ) (told : Beginning) (before after : Work) : Type 0 where
  pub known : Beginning
  pub own : Begins before.told known
  pub learnt : Begins told known
  pub ran : RunsAtLast port packet (record before { told = known }) after
  pub lane : SameLane (record before { told = known }) after

-- it ran the packet that a call made enter, if the call made one enter
abbrev pub Follows : Option (List ℕ) → ℕ → Beginning → Work → Work → Type 0
Follows None port told before after = after ≡ before
Follows (Some packet) port told before after = RunsOut port packet told before after
