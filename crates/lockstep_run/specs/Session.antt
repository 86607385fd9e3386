-- The run so far as the program keeps it.
use Rattle.std.specs.Prelude.{◌≡◌, ℕ, ◌+◌, ◌-◌, ◌^◌, ◌<◌, ◌==◌, ◌⊎◌, List, [], ◌∷◌, ◌++◌, drop, length, slice_index, set, Option, Some, None}
use Rattle.std.specs.List.{filter_map}
use Rattle.p4_types.specs.declared.calls.Call as calls
use Rattle.p4_types.specs.declared.calls.Reply.{Reply}
use Rattle.p4_types.specs.declared.events.Start.{Start}
use Rattle.p4_types.specs.declared.journal.Entry.{Entry}
use Rattle.p4_types.specs.declared.journal.Report.{Report}
use Rattle.p4_types.specs.declared.journal.Step.{Step}
use Rattle.p4_types.specs.declared.records.Record.{Record}
use Rattle.p4_types.specs.declared.tape.TapeRecord.{TapeRecord}
use Rattle.p4_types.specs.declared.tape.Who.{Who}
use Rattle.p4_types.specs.declared.tape.Who.TheVariants.{Controller}
use Rattle.p4_types.specs.declared.tape.TapeRecord.TheVariants.{Call, Packet, Leave, Meet}
use Rattle.ctl_core.specs.Core.{Core, Handled, raised}
use Rattle.plane_spec.specs.Config.{Event}
use Rattle.plane_spec.specs.Planes.{opened, applied}
use Rattle.switch_spec.specs.Answer.{answer_to, called}
use Rattle.switch_spec.specs.declared.calls.LaneCall.{LaneCall}
use Rattle.switch_spec.specs.declared.calls.LaneCall.TheVariants.{Asks, Leaves}
use Rattle.slot_totals.specs.State.{TotalsState, figures}
use Rattle.switch_spec.specs.Counts.{figures_after}
use Rattle.switch_spec.specs.Meaning.{carried}
use Rattle.switch_spec.specs.History.{step_of}
use Rattle.run_spec.specs.Play.{Played, Answers, Refuses, Carries, Finds, next_packet, play}
use Rattle.lockstep_run.specs.Tallies.{Tallies}

-- what the program keeps of a run: its control and counts, its events, the journal, the records of packets, and what counters have counted
pub record State : Type 0 where
  pub core : Core
  -- with what it started, and the events since then
  pub start : Start
  pub events : List Event
  pub journal : List Entry
  pub records : List Record
  -- what the counters have counted
  pub totals : TotalsState

-- the run so far that is kept
abbrev pub played_of : State → Played
played_of s = record { control = s.core.control; steps = s.core.steps; journal = s.journal; records = s.records; figures = figures s.totals }

-- the control state is that behind the events, and each caller's calls are those of the journal
pub record IsSession (s : State) : Type 0 where
  pub agrees : applied (opened s.start) s.events ≡ s.core.control
  pub wide : length s.core.calls ≡ 32
  pub counted : Tallies (λ lane entry. entry.lane == lane) 32 s.core.calls s.journal
  pub each_counted : s.totals.packets ≡ length s.records

-- a call of a lane was handled, with this reply; it is not in the journal yet
pub record IsHandled (lane : ℕ) (call : calls.Call) (reply : Reply) (old new : State) : Type 0 where
  pub handled : Handled old.core.control old.core.steps old.events (answer_to old.core.control (figures old.totals) lane (raised (slice_index old.core.calls lane) 1) call) reply new.core.control new.events
  pub steps : new.core.steps ≡ reply.steps
  pub calls : new.core.calls ≡ set old.core.calls lane (raised (slice_index old.core.calls lane) 1)
  pub agrees : applied (opened new.start) new.events ≡ new.core.control
  pub journal : new.journal ≡ old.journal
  pub records : new.records ≡ old.records
  pub totals : new.totals ≡ old.totals

-- a lane's call is answered, or there is no memory for it
abbrev pub PlaysCall : Played → ℕ → LaneCall → Played → Type 0
PlaysCall p lane call q = (q ≡ play p (Answers lane call)) ⊎ (q ≡ play p (Refuses lane call))

-- the entry of a call
abbrev pub entry_of : ℕ → ℕ → List Step → Reply → Entry
entry_of lane k steps reply = record { lane = lane; call = k; steps = steps; reply = reply }

-- the same state with this journal
abbrev pub with_journal : State → List Entry → State
with_journal s journal = record s { journal = journal }

-- the entry of a lane's latest call was added to the journal, with the steps of the events behind the first so many
abbrev pub IsEntered : ℕ → ℕ → Reply → State → State → Type 0
IsEntered lane before reply old new = new ≡ with_journal old (old.journal ++ entry_of lane (slice_index old.core.calls lane) (filter_map step_of (drop before old.events)) reply ∷ [])

-- A lane's packet ran through the state as it is, and was counted.
pub record IsCarried (who : Who) (port : ℕ) (packet : List ℕ) (old new : State) : Type 0 where
  pub core : new.core ≡ old.core
  pub start : new.start ≡ old.start
  pub events : new.events ≡ old.events
  pub journal : new.journal ≡ old.journal
  pub records : new.records ≡ old.records ++ carried who (next_packet who (played_of old)) old.core.steps old.core.control port packet ∷ []
  pub figures_are : figures new.totals ≡ figures_after (figures old.totals) (carried who (next_packet who (played_of old)) old.core.steps old.core.control port packet).hits (length packet)
  pub counted : new.totals.packets ≡ old.totals.packets + 1

-- the packet that a lane's call makes enter, if it makes one, ran at the CPU port
abbrev pub IsOut : ℕ → Option (List ℕ) → State → State → Type 0
IsOut lane None old new = new ≡ old
IsOut lane (Some packet) old new = IsCarried (Controller lane) old.core.control.cpu packet old new

-- The packet that a call makes enter ran, and then the call's entry was added to the journal.
pub record IsCompleted (lane before : ℕ) (reply : Reply) (old new : State) : Type 0 where
  pub mid : State
  pub out : IsOut lane reply.packet old mid
  pub entered : IsEntered lane before reply mid new

-- there is room for a packet more, and those so far were counted
pub record TakesPacket (s : State) : Type 0 where
  pub room : length s.records < 2 ^ 32 - 1
  pub counted : s.totals.packets ≡ length s.records

-- what a record of the tape makes of the run
abbrev pub Plays : Played → TapeRecord → Played → Type 0
Plays p (Call lane method message) q = PlaysCall p lane (Asks method message) q
Plays p (Leave lane) q = PlaysCall p lane Leaves q
Plays p (Packet lane port packet) q = q ≡ play p (Carries lane port packet)
Plays p (Meet lane controller call) q = q ≡ play p (Finds lane controller call)

-- no number of the run is at its end yet
pub record HasRoom (s : State) : Type 0 where
  pub steps : s.core.steps < 2 ^ 63
  pub calls : length s.journal < 2 ^ 32 - 1
  pub packets : length s.records < 2 ^ 32 - 1

-- A lane's call, which was read, was answered so, whatever record would bring it, and its reply stands in the journal.
pub record IsAskedOf (lane : ℕ) (call : calls.Call) (reply : Reply) (old new : State) : Type 0 where
  pub plays : (spelled : LaneCall) → called spelled ≡ call → PlaysCall (played_of old) lane spelled (played_of new)
  pub entry : Entry
  pub noted : new.journal ≡ old.journal ++ entry ∷ []
  pub of_lane : entry.lane ≡ lane
  pub reply_is : entry.reply ≡ reply

-- a report with these bytes sent
abbrev pub with_sent : List (ℕ × List ℕ) → Report → Report
with_sent sent report = record report { sent = sent }
