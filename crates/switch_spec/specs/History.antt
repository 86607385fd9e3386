-- Journals: which lists of calls and replies are a history (this project's profile).
use Rattle.std.specs.Prelude.{◌≡◌, ℕ, ◌+◌, ◌==◌, Bool, true, false, if◌then◌else◌, List, [], ◌∷◌, ◌++◌, length, count_by, Option, Some, None}
use Rattle.std.specs.List.{filter_map}
use Rattle.p4_types.specs.declared.calls.Reply.{Reply}
use Rattle.p4_types.specs.declared.code.Code.{Code}
use Rattle.p4_types.specs.declared.code.Code.TheVariants as codes
use Rattle.p4_types.specs.declared.events.Event.TheVariants as events
use Rattle.p4_types.specs.declared.events.Start.{Start}
use Rattle.p4_types.specs.declared.journal.Entry.{Entry}
use Rattle.p4_types.specs.declared.journal.Step.{Step}
use Rattle.p4_types.specs.declared.journal.StepKind.TheVariants as kinds
use Rattle.switch_spec.specs.Answer.{Answer, answer}
use Rattle.switch_spec.specs.declared.calls.LaneCall.{LaneCall}
use Rattle.switch_spec.specs.Counts.{Figures}
use Rattle.plane_spec.specs.Config.{Event}
use Rattle.plane_spec.specs.Planes.{ControlState, opened, applied}

-- an entry of the journal beside the call that it answers, and what the counters had counted
pub record Made : Type 0 where
  pub call : LaneCall
  pub figures : Figures
  pub entry : Entry

-- the step that an event is; Close is none
abbrev pub step_of : Event → Option Step
step_of (events.Arbitrate by config) = Some (record { kind = kinds.Arbitrate; changes = 0 })
step_of (events.Leave caller call) = Some (record { kind = kinds.Leave; changes = 0 })
step_of (events.Change by change) = Some (record { kind = kinds.Change; changes = 1 })
step_of (events.Batch by list) = Some (record { kind = kinds.Batch; changes = length list })
step_of (events.Save by config) = Some (record { kind = kinds.Save; changes = 0 })
step_of (events.Commit by content) = Some (record { kind = kinds.Commit; changes = 0 })
step_of events.Close = None

-- the steps of a list of events, in order
abbrev pub steps_of : List Event → List Step
steps_of list = filter_map step_of list

-- the reply of an answer after n steps
abbrev pub reply_of : ℕ → Answer → Reply
reply_of n a = record { code = a.code; messages = a.messages; notices = a.notices; steps = n + length (steps_of a.events); packet = a.packet }

-- the entry of a call that is answered in this state after n steps
abbrev pub answered : ControlState → Figures → ℕ → ℕ → ℕ → LaneCall → Entry
answered c g n lane k call =
    let a = answer c g lane k call in
    record { lane = lane; call = k; steps = steps_of a.events; reply = reply_of n a }

-- the entry of a call for which there was no memory: no step, and nothing else
abbrev pub refused_for_memory : ℕ → ℕ → ℕ → Entry
refused_for_memory n lane k =
    record { lane = lane; call = k; steps = []; reply = record { code = codes.Unavailable; messages = []; notices = []; steps = n; packet = None } }

-- whether a code says that there was no memory; no answer has it
abbrev pub is_unavailable : Code → Bool
is_unavailable codes.Unavailable = true
is_unavailable _ = false

-- whether there was no memory for a call of the journal
abbrev pub is_refused_for_memory : Made → Bool
is_refused_for_memory made = is_unavailable made.entry.reply.code

-- what a call made in this state adds to the published list
abbrev pub own_events : ControlState → Made → List Event
own_events c made = if is_refused_for_memory made then [] else (answer c made.figures made.entry.lane made.entry.call made.call).events

-- the entry that a call made in this state after n steps has to have
abbrev pub expected : ControlState → ℕ → Made → Entry
expected c n made =
    if is_refused_for_memory made then refused_for_memory n made.entry.lane made.entry.call
    else answered c made.figures n made.entry.lane made.entry.call made.call

-- Each call has its answer in the state that the earlier calls left, or is refused for memory.
abbrev pub History : ControlState → ℕ → List Made → Type 0
History c n [] = Unit {0}
History c n (made ∷ later) = (made.entry ≡ expected c n made) × History (applied c (own_events c made)) (n + length made.entry.steps) later

-- what the calls of a journal add to the published list
abbrev pub journal_events : ControlState → List Made → List Event
journal_events c [] = []
journal_events c (made ∷ later) = own_events c made ++ journal_events (applied c (own_events c made)) later

-- the published list of a journal, to its end
abbrev pub published : Start → List Made → List Event
published start journal = journal_events (opened start) journal ++ events.Close ∷ []

-- a lane's entries are numbered 1, 2, 3 and on: each follows those of its lane before it
abbrev pub Numbered : List Entry → List Entry → Type 0
Numbered before [] = Unit {0}
Numbered before (entry ∷ later) =
    (entry.call ≡ count_by (λ e. e.lane == entry.lane) before + 1) × Numbered (before ++ entry ∷ []) later
