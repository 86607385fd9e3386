-- What the Reads of a run saw of the counters (P4Runtime 1.3.0, "Counter & DirectCounter Entries"; the bounds: this project's profile).
use Rattle.std.specs.Prelude.{◌≡◌, ℕ, ◌<◌, ◌≤◌, ◌==◌, Bool, true, false, if◌then◌else◌, List, [], ◌∷◌, filter}
use Rattle.p4_types.specs.declared.calls.Call.{Call}
use Rattle.p4_types.specs.declared.calls.Call.TheVariants as calls
use Rattle.p4_types.specs.declared.events.Start.{Start}
use Rattle.p4_types.specs.declared.tape.TapeRecord.{TapeRecord}
use Rattle.p4_types.specs.declared.tape.Who.TheVariants.{Controller}
use Rattle.plane_spec.specs.Planes.{ControlState, opened, applied}
use Rattle.run_spec.specs.Report.{IsLockstepReport, carried_after, figures_out}
use Rattle.switch_spec.specs.Answer.{called}
use Rattle.switch_spec.specs.Carrying.{carried_on, packet_out}
use Rattle.switch_spec.specs.CountLaws.{figures_of}
use Rattle.switch_spec.specs.Counts.{Figures, Carried, no_figures}
use Rattle.switch_spec.specs.History.{Made, is_refused_for_memory, own_events}

-- whether a call is a Read
abbrev pub is_read : Call → Bool
is_read (calls.Read request) = true
is_read _ = false

-- whether a call of the journal read: it is a Read that was not refused for memory
abbrev pub has_read : Made → Bool
has_read made = if is_refused_for_memory made then false else is_read (called made.call)

-- a call beside the state that the calls before it left
pub record Moment : Type 0 where
  pub control : ControlState
  pub made : Made

-- the calls of a journal, each beside its state
abbrev pub moments : ControlState → List Made → List Moment
moments c [] = []
moments c (made ∷ later) = (record { control = c; made = made }) ∷ moments (applied c (own_events c made)) later

-- those of one lane
abbrev pub moments_on : ℕ → ControlState → List Made → List Moment
moments_on lane c journal = filter (λ moment. lane == moment.made.entry.lane) (moments c journal)

-- no more packets, and no more bytes
abbrev pub IsNoMore : ℕ × ℕ → ℕ × ℕ → Type 0
IsNoMore x y = (x.0 ≤ y.0) × (x.1 ≤ y.1)

-- What a Read saw of each slot that was drawn in its state is no less than the first figures, and no more than the last.
abbrev pub SeesBetween : Figures → Figures → Moment → Type 0
SeesBetween low high moment = has_read moment.made ≡ true → (slot : ℕ) → slot < moment.control.next_slot
    → IsNoMore (low slot) (moment.made.figures slot) × IsNoMore (moment.made.figures slot) (high slot)

-- the figures that are known behind a call: those that it saw, if it read
abbrev pub known_behind : Figures → Made → Figures
known_behind low made = if has_read made then made.figures else low

-- Of a lane's calls, beside the packets that they made enter: each Read saw no less than the lane's Read before it with what
-- the lane's packets have counted since, and no more than all packets have counted at the end.
abbrev pub AreBounded : Start → Figures → Figures → List Moment → List Carried → Type 0
AreBounded start high low [] packets = Unit {0}
AreBounded start high low (moment ∷ later) packets =
    SeesBetween low high moment
    × AreBounded start high (figures_out (packet_out start moment.made) (known_behind low moment.made) packets) later (carried_after (packet_out start moment.made) packets)

-- so it is on each controller's lane of a run
abbrev pub FiguresAreBounded : Start → List Made → List Carried → Type 0
FiguresAreBounded start journal records = (lane : ℕ) → AreBounded start (figures_of records) no_figures (moments_on lane (opened start) journal) (carried_on (Controller lane) records)

-- where journal and records follow the tape, the figures are bounded
abbrev pub LockstepIsBounded : Type 0
LockstepIsBounded = (start : Start) (tape : List TapeRecord) (text : List ℕ) (report : IsLockstepReport start tape text) → FiguresAreBounded start report.report.journal report.report.records
