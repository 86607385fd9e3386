-- What stands behind the lock, and what one call makes of it.
use Rattle.std.specs.Prelude.{◌≡◌, ℕ, ◌<◌, ◌≤◌, ◌==◌, Bool, true, false, List, [], ◌∷◌, length, map, count_by, sum_by, slice_index, set, Option, Some, None, IfOk, IfSome}
use Rattle.ctl_core.specs.Core.{Core, Handled, raised}
use Rattle.ctl_lock.specs.declared.locked.Outcome.{Outcome}
use Rattle.ctl_lock.specs.declared.signed.Signed.{Signed}
use Rattle.ctl_lock.specs.Calls.{made_of}
use Rattle.ctl_lock.specs.Passing.{Follows}
use Rattle.ctl_lock.specs.Reading.{Looks}
use Rattle.snap_worker.specs.Sums.{AreSums, noted_by}
use Rattle.event_log.specs.Lists.{ListName}
use Rattle.lane_table.specs.Lanes.{Lane, Journal, LaneTableId, with_call}
use Rattle.lane_work.specs.Work.{Work, steps_told}
use Rattle.p4_types.specs.declared.calls.Call.{Call}
use Rattle.p4_types.specs.declared.calls.Call.TheVariants as calls
use Rattle.p4_types.specs.declared.calls.Reply.{Reply}
use Rattle.p4_types.specs.declared.events.Start.{Start}
use Rattle.p4_types.specs.declared.journal.Entry.{Entry}
use Rattle.plane_spec.specs.Config.{Event}
use Rattle.plane_spec.specs.Planes.{ControlState, opened, applied}
use Rattle.pub_snap.specs.Beginnings.{Beginning}
use Rattle.switch_spec.specs.Answer.{answer_to, called}
use Rattle.switch_spec.specs.Counts.{Figures}
use Rattle.switch_spec.specs.History.{Made, History, Numbered, is_refused_for_memory, journal_events, own_events, steps_of}
use Rattle.switch_spec.specs.declared.calls.LaneCall.{LaneCall}

-- the entries of a journal
abbrev pub entries_of : List Made → List Entry
entries_of journal = map (λ made. made.entry) journal

-- The journal is a history of the start, its events are these, each of which is a step, and the control is behind them.
pub record IsStanding (start : Start) (events : List Event) (core : Core) (journal : List Made) : Type 0 where
  pub events_are : events ≡ journal_events (opened start) journal
  pub each_step : length (steps_of events) ≡ length events
  pub control : core.control ≡ applied (opened start) events
  pub steps : core.steps ≡ length events
  pub counted_steps : core.steps ≡ sum_by (λ made. length made.entry.steps) journal
  pub history : History (opened start) 0 journal
  pub numbered : Numbered [] (entries_of journal)
  pub wide : length core.calls ≡ 32
  pub calls : (lane : ℕ) → lane < 32 → slice_index core.calls lane ≡ count_by (λ entry. entry.lane == lane) (entries_of journal)

-- the seat of a journal of 32 lanes
abbrev pub seat_of : LaneTableId → List Signed → Journal Signed
seat_of table entries = record { table = table; entries = entries; lanes = 32 }

-- what is kept behind the lock
pub record Locking : Type 0 where
  pub core : Core
  pub events : List Event
  pub journal : List Signed

-- a call that was read is this one; one that was not read for want of memory may be any
abbrev pub IsRead : LaneCall → Option Call → Type 0
IsRead call None = Unit {0}
IsRead call (Some read) = read ≡ called call

-- a lane's call was handled, with this reply
pub record IsHandled (lane : ℕ) (g : Figures) (call : Call) (old : Core) (given : List Event) (reply : Reply) (new : Core) (now : List Event) : Type 0 where
  pub handled : Handled old.control old.steps given (answer_to old.control g lane (raised (slice_index old.calls lane) 1) call) reply new.control now
  pub steps : reply.steps ≡ new.steps
  pub calls : new.calls ≡ set old.calls lane (raised (slice_index old.calls lane) 1)

-- whether a call reads
abbrev pub reads : Call → Bool
reads (calls.Read request) = true
reads _ = false

-- a call that reads saw the counter of each slot that was drawn in this state, unless it was refused for memory
abbrev pub SeesAll : ControlState → Signed → Type 0
SeesAll c signed = is_refused_for_memory (made_of signed) ≡ false → reads (called signed.call) ≡ true → length signed.figures ≡ c.next_slot

-- so did each call of the journal, in the state that the calls before it left
abbrev pub SeeAll : ControlState → List Signed → Type 0
SeeAll c [] = Unit {0}
SeeAll c (signed ∷ later) = SeesAll c signed × SeeAll (applied c (own_events c (made_of signed))) later

-- the lane's next entry, with the steps of the events behind the first so many
pub record IsEntry (lane number : ℕ) (added : List Event) (reply : Reply) (entry : Entry) : Type 0 where
  pub lane_is : entry.lane ≡ lane
  pub call_is : entry.call ≡ number
  pub steps_are : entry.steps ≡ steps_of added
  pub reply_is : entry.reply ≡ reply

-- A lane's call was made and signed: its entry follows those of the lane, and what is told of it is so.
pub record IsCalled (start : Start) (list : ListName) (call : LaneCall) (figures : List (ℕ × ℕ)) (before after : Lane Signed) (outcome : Outcome) : Type 0 where
  pub signed : Signed
  pub lane : after ≡ with_call before signed
  pub call_is : signed.call ≡ call
  pub figures_are : signed.figures ≡ figures
  pub lane_is : signed.entry.lane ≡ before.number
  -- the packet that it makes enter
  pub packet : IfOk outcome.packet (λ packet. packet ≡ signed.entry.reply.packet)
  pub size : IfSome signed.entry.reply.packet (λ packet. length packet ≤ 9216)
  -- what is told begins with the events of the call
  pub told_list : outcome.told.list ≡ list
  pub told_start : outcome.told.start ≡ start
  pub told_steps : length (steps_of outcome.told.events) ≡ signed.entry.reply.steps

-- The lane's call was made and signed, and saw these sums of the counters.
pub record HasSeen (start : Start) (list : ListName) (call : LaneCall) (sums : Figures) (before after : Lane Signed) (outcome : Outcome) : Type 0 where
  pub figures : List (ℕ × ℕ)
  pub are_sums : AreSums figures sums
  pub called : IsCalled start list call figures before after outcome

-- The call was made and signed, what it saw was loaded by the lane's own seat, and the packet that it made enter was run.
pub record IsWhole (start : Start) (list : ListName) (cpu : ℕ) (call : LaneCall) (before after : Lane Signed) (work done : Work) : Type 0 where
  pub signed : Signed
  pub lane : after ≡ with_call before signed
  pub call_is : signed.call ≡ call
  pub seen : Work
  pub looks : Looks work seen
  pub are_sums : AreSums signed.figures (noted_by seen.seat)
  pub told : Beginning
  pub told_steps : steps_told told ≡ signed.entry.reply.steps
  pub follows : Follows signed.entry.reply.packet cpu told seen done
