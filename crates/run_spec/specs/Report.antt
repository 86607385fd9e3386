-- What it is for a text to be the report of a tape (this project's profile).
use Rattle.std.specs.Prelude.{◌≡◌, ℕ, ◌+◌, ◌≤◌, ◌==◌, max, List, [], ◌∷◌, ◌++◌, length, map, filter, count_by, false, if◌then◌else◌, Option, Some, None, option_map, is_some}
use Rattle.std.specs.List.{filter_map, zip, AllByRecursion}
use Rattle.p4_types.specs.declared.events.Start.{Start}
use Rattle.p4_types.specs.declared.journal.Report.{Report}
use Rattle.p4_types.specs.declared.records.Record.{Record}
use Rattle.p4_types.specs.declared.tape.TapeRecord.{TapeRecord}
use Rattle.p4_types.specs.declared.tape.TapeRecord.TheVariants.{Call, Packet, Leave, Meet}
use Rattle.p4_types.specs.declared.tape.Who.{Who}
use Rattle.p4_types.specs.declared.tape.Who.TheVariants.{Controller, Worker}
use Rattle.switch_spec.specs.declared.calls.LaneCall.{LaneCall}
use Rattle.switch_spec.specs.declared.calls.LaneCall.TheVariants.{Asks, Leaves}
use Rattle.switch_spec.specs.declared.calls.WorkerItem.{WorkerItem}
use Rattle.switch_spec.specs.declared.calls.WorkerItem.TheVariants.{Brings, Meets}
use Rattle.plane_spec.specs.Config.{Event}
use Rattle.plane_spec.specs.Legal.{Legal}
use Rattle.plane_spec.specs.Planes.{ControlState, opened, applied, after}
use Rattle.switch_spec.specs.Counts.{Figures, Arrival, Carried, no_figures, counted, counts_in, cells_in}
use Rattle.switch_spec.specs.History.{Made, History, Numbered, published, steps_of, is_refused_for_memory}
use Rattle.switch_spec.specs.Meaning.{carried}
use Rattle.switch_spec.specs.Carrying.{made_on, carried_on, packet_out, packets_out, steps_through, Covers, Fits, InTurn, final}
use Rattle.run_spec.specs.ReportText.{report_text}

-- the call of one controller's lane that a record of the tape is
abbrev pub call_on : ℕ → TapeRecord → Option LaneCall
call_on lane (Call other method message) = if lane == other then Some (Asks method message) else None
call_on lane (Leave other) = if lane == other then Some Leaves else None
call_on lane (Packet other port packet) = None
call_on lane (Meet other controller call) = None

-- the packet of one worker's lane that a record of the tape is
abbrev pub packet_on : ℕ → TapeRecord → Option Arrival
packet_on lane (Call other method message) = None
packet_on lane (Leave other) = None
packet_on lane (Packet other port packet) = if lane == other then Some (port, packet) else None
packet_on lane (Meet other controller call) = None

-- what a record of the tape is for one worker's lane
abbrev pub item_on : ℕ → TapeRecord → Option WorkerItem
item_on lane (Call other method message) = None
item_on lane (Leave other) = None
item_on lane (Packet other port packet) = if lane == other then Some (Brings port packet) else None
item_on lane (Meet other controller call) = if lane == other then Some (Meets controller call) else None

-- Of a worker's packets, each is after at least so many steps, and after at least the steps through each call that it met before.
abbrev pub IsBehindMeets : List Made → ℕ → List WorkerItem → List Carried → Type 0
IsBehindMeets journal least [] records = Unit {0}
IsBehindMeets journal least (Meets controller call ∷ items) records = IsBehindMeets journal (max least (steps_through controller call journal)) items records
IsBehindMeets journal least (Brings port packet ∷ items) [] = ⊥
IsBehindMeets journal least (Brings port packet ∷ items) (first ∷ records) = (least ≤ first.outcome.steps) × IsBehindMeets journal least items records

-- the calls that a lane makes in a run with this journal: those of the tape; none of its lanes brings bytes of a transport
abbrev pub calls_on : ℕ → List TapeRecord → List Made → List LaneCall
calls_on lane tape journal = filter_map (call_on lane) tape

-- the bytes that are sent on lanes of a transport, by rising lane; there are none
abbrev pub sent_on : List TapeRecord → List Made → List (ℕ × List ℕ)
sent_on tape journal = []

-- The journal and the records are a run of the tape, in some interleaving of its lanes.
pub record IsRun (start : Start) (tape : List TapeRecord) (journal : List Made) (records : List Carried) : Type 0 where
  -- each lane's calls whole, in order, each once
  pub calls : (lane : ℕ) → map (λ made. made.call) (made_on lane journal) ≡ calls_on lane tape journal
  pub numbered : Numbered [] (map (λ made. made.entry) journal)
  -- each reply is the answer in the state that the earlier entries left
  pub history : History (opened start) 0 journal
  pub legal : Legal (opened start) (published start journal)
  -- each packet once, of a worker from the tape, of a controller from its calls
  pub packets : (lane : ℕ) → map (λ carried. carried.arrival) (carried_on (Worker lane) records) ≡ filter_map (packet_on lane) tape
  pub out : (lane : ℕ) → map (λ carried. carried.arrival) (carried_on (Controller lane) records) ≡ packets_out start lane journal
  pub covers : (lane : ℕ) → Covers lane journal records
  pub meets : (lane : ℕ) → IsBehindMeets journal 0 (filter_map (item_on lane) tape) (carried_on (Worker lane) records)
  pub in_turn : InTurn [] (map (λ carried. carried.outcome) records)
  -- each packet's outcome is its meaning after its steps
  pub fits : AllByRecursion (Fits start (published start journal)) records

-- the packets that are carried after one that a call made enter
abbrev pub carried_after : Option Arrival → List Carried → List Carried
carried_after None records = records
carried_after (Some arrival) [] = []
carried_after (Some arrival) (first ∷ records) = records

-- the packet that a call made enter is carried directly after the call
abbrev pub IsFollowed : Option Arrival → Made → List Carried → Type 0
IsFollowed None made records = Unit {0}
IsFollowed (Some arrival) made [] = ⊥
IsFollowed (Some arrival) made (first ∷ records) =
    (first.outcome.who ≡ Controller made.entry.lane) × (first.arrival ≡ arrival) × (first.outcome.steps ≡ made.entry.reply.steps)

-- what the counters have counted behind the packet that a call made enter
abbrev pub figures_out : Option Arrival → Figures → List Carried → Figures
figures_out None g records = g
figures_out (Some arrival) g [] = g
figures_out (Some arrival) g (first ∷ records) = counted g first

-- the entry is the next call of a lane, and the packet that it makes enter follows
pub record IsNext (start : Start) (g : Figures) (lane : ℕ) (call : LaneCall) (made : Made) (records : List Carried) : Type 0 where
  pub lane_is : made.entry.lane ≡ lane
  pub call_is : made.call ≡ call
  -- a Read sees what the packets before it have counted
  pub figures_are : made.figures ≡ g
  pub followed : IsFollowed (packet_out start made) made records

-- Journal and records follow the tape: each packet is after just the steps of the calls before it, and each call sees what
-- the packets before it have counted. A meet waits for nothing, since its call stands before it.
abbrev pub Lockstep : Start → ℕ → Figures → List TapeRecord → List Made → List Carried → Type 0
Lockstep start n g [] journal records = (journal ≡ []) × (records ≡ [])
Lockstep start n g (Call lane method message ∷ tape) [] records = ⊥
Lockstep start n g (Call lane method message ∷ tape) (made ∷ journal) records =
    IsNext start g lane (Asks method message) made records
    × Lockstep start made.entry.reply.steps (figures_out (packet_out start made) g records) tape journal (carried_after (packet_out start made) records)
Lockstep start n g (Leave lane ∷ tape) [] records = ⊥
Lockstep start n g (Leave lane ∷ tape) (made ∷ journal) records =
    IsNext start g lane Leaves made records
    × Lockstep start made.entry.reply.steps (figures_out (packet_out start made) g records) tape journal (carried_after (packet_out start made) records)
Lockstep start n g (Packet lane port packet ∷ tape) journal [] = ⊥
Lockstep start n g (Packet lane port packet ∷ tape) journal (carried ∷ records) =
    (carried.outcome.who ≡ Worker lane) × (carried.arrival ≡ (port, packet)) × (carried.outcome.steps ≡ n) × Lockstep start n (counted g carried) tape journal records
Lockstep start n g (Meet lane controller call ∷ tape) journal records = Lockstep start n g tape journal records

-- what the report shows of a run: the counts are those of the plane that is active at its end
abbrev pub report_of : Start → List TapeRecord → List Made → List Carried → Report
report_of start tape journal records = record {
  journal = map (λ made. made.entry) journal;
  sent = sent_on tape journal;
  records = map (λ carried. carried.outcome) records;
  counts = counts_in (final start journal).active records;
  cells = cells_in (final start journal).active records;
}

-- The text is the report of a run of the tape.
pub record IsReport (start : Start) (tape : List TapeRecord) (text : List ℕ) : Type 0 where
  pub journal : List Made
  pub records : List Carried
  pub run : IsRun start tape journal records
  pub written : text ≡ report_text (report_of start tape journal records)

-- The text is the report of the run that follows the tape.
pub record IsLockstepReport (start : Start) (tape : List TapeRecord) (text : List ℕ) : Type 0 where
  pub report : IsReport start tape text
  pub lockstep : Lockstep start 0 no_figures tape report.journal report.records

-- Where no call is refused for memory the tape determines the report.
abbrev pub TapeDeterminesReport : Type 0
TapeDeterminesReport = (start : Start) (tape : List TapeRecord) (one other : List ℕ) (a : IsLockstepReport start tape one) (b : IsLockstepReport start tape other)
    → AllByRecursion (λ made. is_refused_for_memory made ≡ false) a.report.journal → AllByRecursion (λ made. is_refused_for_memory made ≡ false) b.report.journal → one ≡ other
