-- A run in one pass over the tape.
use Rattle.std.specs.Prelude.{ℕ, ◌+◌, ◌==◌, List, [], ◌∷◌, ◌++◌, count_by, fold, length, map, Option, Some, None}
use Rattle.p4_types.specs.declared.events.Start.{Start}
use Rattle.p4_types.specs.declared.journal.Entry.{Entry}
use Rattle.p4_types.specs.declared.journal.Report.{Report}
use Rattle.p4_types.specs.declared.records.Record.{Record}
use Rattle.p4_types.specs.declared.tape.TapeRecord.{TapeRecord}
use Rattle.p4_types.specs.declared.tape.TapeRecord.TheVariants.{Call, Packet, Leave, Meet}
use Rattle.p4_types.specs.declared.tape.Who.{Who}
use Rattle.p4_types.specs.declared.tape.Who.TheVariants.{Controller, Worker}
use Rattle.switch_spec.specs.Counts.{Figures, no_figures, figures_after, count_lines, cell_lines}
use Rattle.switch_spec.specs.Answer.{Answer, answer}
use Rattle.switch_spec.specs.declared.calls.LaneCall.{LaneCall}
use Rattle.switch_spec.specs.declared.calls.LaneCall.TheVariants.{Asks, Leaves}
use Rattle.plane_spec.specs.Planes.{ControlState, opened, applied}
use Rattle.switch_spec.specs.History.{answered, refused_for_memory}
use Rattle.switch_spec.specs.Meaning.{carried}
use Rattle.run_spec.specs.Report.{IsLockstepReport}
use Rattle.switch_spec.specs.Carrying.{is_who}
use Rattle.run_spec.specs.ReportText.{report_text}
use Rattle.run_spec.specs.Tape.{no_lanes, NameMade}

-- the run so far
pub record Played : Type 0 where
  pub control : ControlState
  pub steps : ℕ
  pub journal : List Entry
  pub records : List Record
  -- what the counters have counted
  pub figures : Figures

-- the run before the first record of the tape
abbrev pub begun : Start → Played
begun start = record { control = opened start; steps = 0; journal = []; records = []; figures = no_figures }

-- the number of a controller's next call
abbrev pub next_call : ℕ → Played → ℕ
next_call lane p = count_by (λ entry. entry.lane == lane) p.journal + 1

-- the number of a lane's next packet
abbrev pub next_packet : Who → Played → ℕ
next_packet who p = count_by (λ r. is_who who r.who) p.records + 1

-- a packet runs through the state as it is
abbrev pub play_packet : Played → Who → ℕ → List ℕ → Played
play_packet p who port packet =
    let outcome = carried who (next_packet who p) p.steps p.control port packet in
    record p { records = p.records ++ outcome ∷ []; figures = figures_after p.figures outcome.hits (length packet) }

-- what a lane's next call is answered in the state as it is
abbrev pub next_answer : Played → ℕ → LaneCall → Answer
next_answer p lane call = answer p.control p.figures lane (next_call lane p) call

-- the call has its answer
abbrev pub play_answer : Played → ℕ → LaneCall → Played
play_answer p lane call =
    let entry = answered p.control p.figures p.steps lane (next_call lane p) call in
    record p {
      control = applied p.control (next_answer p lane call).events;
      steps = entry.reply.steps;
      journal = p.journal ++ entry ∷ [];
    }

-- the packet that a call makes enter, if it makes one, runs at the CPU port
abbrev pub play_out : Played → ℕ → Option (List ℕ) → Played
play_out p lane None = p
play_out p lane (Some packet) = play_packet p (Controller lane) p.control.cpu packet

-- a call is answered in the state as it is, and the packet that it makes enter runs directly after it
abbrev pub play_call : Played → ℕ → LaneCall → Played
play_call p lane call = play_out (play_answer p lane call) lane (next_answer p lane call).packet

-- a call for which there is no memory leaves the state
abbrev pub play_refusal : Played → ℕ → Played
play_refusal p lane = record p { journal = p.journal ++ refused_for_memory p.steps lane (next_call lane p) ∷ [] }

-- what becomes of a record of the tape: a call is answered, or there is no memory for it, or a packet is carried, or a call that is met was made
pub data Turn : Type 0 where
  Answers : (lane : ℕ) (call : LaneCall) → Turn
  Refuses : (lane : ℕ) (call : LaneCall) → Turn
  Carries : (lane port : ℕ) (packet : List ℕ) → Turn
  Finds : (lane controller call : ℕ) → Turn

-- the record of a lane's call
abbrev pub call_item : ℕ → LaneCall → TapeRecord
call_item lane (Asks method message) = Call lane method message
call_item lane Leaves = Leave lane

-- the record
abbrev pub item_of : Turn → TapeRecord
item_of (Answers lane call) = call_item lane call
item_of (Refuses lane call) = call_item lane call
item_of (Carries lane port packet) = Packet lane port packet
item_of (Finds lane controller call) = Meet lane controller call

-- the tape of the turns
abbrev pub items_of : List Turn → List TapeRecord
items_of turns = map item_of turns

-- the run after one turn more
unfoldable pub play : Played → Turn → Played
play p (Answers lane call) = play_call p lane call
play p (Refuses lane call) = play_refusal p lane
play p (Carries lane port packet) = play_packet p (Worker lane) port packet
play p (Finds lane controller call) = p

-- the run of these turns
abbrev pub played : Start → List Turn → Played
played start turns = fold play (begun start) turns

-- the turn of a record whose call is answered
abbrev pub answering : TapeRecord → Turn
answering (Call lane method message) = Answers lane (Asks method message)
answering (Leave lane) = Answers lane Leaves
answering (Packet lane port packet) = Carries lane port packet
answering (Meet lane controller call) = Finds lane controller call

-- what the report shows of it
abbrev pub played_report : Played → Report
played_report p = record { journal = p.journal; sent = []; records = p.records; counts = count_lines p.figures p.control.active; cells = cell_lines p.figures p.control.active }

-- The run in one pass gives the report that follows the tape, where each meet names a call that was made before it.
abbrev pub PlayedIsReport : Type 0
PlayedIsReport = (start : Start) (turns : List Turn) → NameMade no_lanes (items_of turns) → IsLockstepReport start (items_of turns) (report_text (played_report (played start turns)))
