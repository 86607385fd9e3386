-- The run in one pass has legal events, and each of its packets fits them.
use Rattle.std.proofs.Common.{◌≡◌, ℕ, ◌≤◌, false, List, [], ◌∷◌, ◌++◌, length, map, take, Option, Some, None, refl, ap, ap₂, ◌∙◌, sym, subst, append_assoc, length-append, arith}
use Rattle.std.proofs.lemmas.List.Elements.{filter_map-append}
use Rattle.std.proofs.lemmas.List.Sums.{fold-append}
use Rattle.std.proofs.Math.Seq.{take-append_seam}
use Rattle.std.specs.Prelude.{fold}
use Rattle.std.specs.List.{AllByRecursion}
use Rattle.p4_types.specs.declared.events.Event.TheVariants as events
use Rattle.p4_types.specs.declared.events.Start.{Start}
use Rattle.p4_types.specs.declared.journal.CellLine.{CellLine}
use Rattle.p4_types.specs.declared.journal.CountLine.{CountLine}
use Rattle.p4_types.specs.declared.journal.Entry.{Entry}
use Rattle.p4_types.specs.declared.journal.Report.{Report}
use Rattle.p4_types.specs.declared.records.Record.{Record}
use Rattle.p4_types.specs.declared.tape.Who.{Who}
use Rattle.p4_types.specs.declared.tape.Who.TheVariants.{Controller, Worker}
use Rattle.switch_spec.specs.declared.calls.LaneCall.{LaneCall}
use Rattle.plane_spec.specs.Config.{Event}
use Rattle.plane_spec.specs.Legal.{Legal}
use Rattle.plane_spec.specs.Planes.{ControlState, Plane, opened, apply, applied, after}
use Rattle.switch_spec.specs.History.{journal_events, published, step_of, steps_of}
use Rattle.switch_spec.specs.Counts.{Figures, Carried, counted, counts_in, cells_in, count_lines, cell_lines}
use Rattle.switch_spec.specs.Meaning as meaning
use Rattle.run_spec.specs.Play.{Played, begun, next_call, next_packet, next_answer, play, play_answer, play_out, play_call, play_refusal, play_packet, Turn, Answers, Refuses, Carries, Finds, items_of, played, played_report}
use Rattle.switch_spec.specs.Carrying.{Fits, final}
use Rattle.run_spec.specs.Report.{IsRun, IsLockstepReport, report_of}
use Rattle.run_spec.specs.ReportText.{report_text}
use Rattle.run_spec.specs.Tape.{no_lanes, NameMade}
use Rattle.switch_spec.proofs.Answers.{answer_sound}
use Rattle.run_spec.proofs.Following.{calls_follow, packets_follow, out_follows, covers_follow}
use Rattle.run_spec.proofs.Meeting.{meets_from_start}
use Rattle.switch_spec.proofs.Counters.{counters_keep_records}
use Rattle.switch_spec.proofs.CpuPort.{cpu_stays}
use Rattle.run_spec.proofs.Playing.{call_events, made, carried, carried_packet, carried_out, behind, own_events_of, journal_played, records_played, lockstep_played, history_played, numbered_played, rises_played, in_turn_played}

-- the events that the rest of a tape adds
abbrev pub events_from : Played → List Turn → List Event
events_from p [] = []
events_from p (Answers lane call ∷ tape) =
    call_events p lane call ++ events_from (play_call p lane call) tape
events_from p (Refuses lane call ∷ tape) = events_from (play_refusal p lane) tape
events_from p (Carries lane port packet ∷ tape) = events_from (play_packet p (Worker lane) port packet) tape
events_from p (Finds lane controller call ∷ tape) = events_from p tape

pub events_played : (p : Played) (tape : List Turn) → journal_events p.control (made p tape) ≡ events_from p tape
events_played p [] = refl
events_played p (Answers lane call ∷ tape) =
    ap (λ (list : List Event). list ++ journal_events (applied p.control list) (made (play_call p lane call) tape)) (own_events_of p.control p.figures p.steps lane (next_call lane p) call)
    ∙ ap (λ (c : ControlState). call_events p lane call ++ journal_events c (made (play_call p lane call) tape)) (sym (behind p lane call).control)
    ∙ ap (λ (rest : List Event). call_events p lane call ++ rest) (events_played (play_call p lane call) tape)
events_played p (Refuses lane call ∷ tape) = events_played (play_refusal p lane) tape
events_played p (Carries lane port packet ∷ tape) = events_played (play_packet p (Worker lane) port packet) tape
events_played p (Finds lane controller call ∷ tape) = events_played p tape

pub legal_played : (p : Played) (tape : List Turn) → p.control.closed ≡ false → Legal p.control (events_from p tape ++ events.Close ∷ [])
legal_played p [] h = (h, tt)
legal_played p (Answers lane call ∷ tape) h =
    let sound = answer_sound p.control p.figures lane (next_call lane p) call in
    let rest : List Event = events_from (play_call p lane call) tape ++ events.Close ∷ [] in
    let later : Legal (play_call p lane call).control rest = legal_played (play_call p lane call) tape (ap (λ (c : ControlState). c.closed) (behind p lane call).control ∙ sound.still_open h) in
    let P : List Event → Type 0 = λ list. Legal p.control list in
    subst P (sym (append_assoc (call_events p lane call) (events_from (play_call p lane call) tape) (events.Close ∷ [])))
    (sound.legal h _ (subst (λ (c : ControlState). Legal c rest) (behind p lane call).control later))
legal_played p (Refuses lane call ∷ tape) h = legal_played (play_refusal p lane) tape h
legal_played p (Carries lane port packet ∷ tape) h = legal_played (play_packet p (Worker lane) port packet) tape h
legal_played p (Finds lane controller call ∷ tape) h = legal_played p tape h

-- The state is that after these events, each of which is a step.
pub record IsAfter (start : Start) (list : List Event) (p : Played) : Type 0 where
  pub control : p.control ≡ applied (opened start) list
  pub steps : p.steps ≡ length list
  pub all_steps : length (steps_of list) ≡ length list

pub after_answer : (start : Start) (list : List Event) (p : Played) (lane : ℕ) (call : LaneCall) → IsAfter start list p
    → IsAfter start (list ++ call_events p lane call) (play_answer p lane call)
after_answer start list p lane call h =
    let sound = answer_sound p.control p.figures lane (next_call lane p) call in
    record {
      control = ap (λ c. applied c (call_events p lane call)) h.control ∙ sym (fold-append apply (opened start) list (call_events p lane call));
      steps = omega (arith, h.steps, sound.all_steps, length-append list (call_events p lane call));
      all_steps = ap length (filter_map-append step_of list (call_events p lane call))
          ∙ omega (arith, h.all_steps, sound.all_steps, length-append list (call_events p lane call), length-append (steps_of list) (steps_of (call_events p lane call)));
    }

pub after_call : (start : Start) (list : List Event) (p : Played) (lane : ℕ) (call : LaneCall) → IsAfter start list p
    → IsAfter start (list ++ call_events p lane call) (play_call p lane call)
after_call start list p lane call h =
    let answered = after_answer start list p lane call h in
    let out = behind p lane call in record { control = out.control ∙ answered.control; steps = out.steps ∙ answered.steps; all_steps = answered.all_steps }

-- the CPU port is that of the start
pub cpu_after : (start : Start) (list : List Event) (p : Played) → IsAfter start list p → p.control.cpu ≡ start.cpu
cpu_after start list p h = ap (λ (c : ControlState). c.cpu) h.control ∙ cpu_stays list (opened start)

-- the state after as many steps of the whole list
pub state_after : (start : Start) (list rest : List Event) (p : Played) → IsAfter start list p → after start (list ++ rest) p.steps ≡ p.control
state_after start list rest p h =
    ap (λ n. applied (opened start) (take n (list ++ rest))) h.steps ∙ ap (applied (opened start)) (take-append_seam list rest) ∙ sym h.control

pub in_list_after : (start : Start) (list rest : List Event) (p : Played) → IsAfter start list p → p.steps ≤ length (steps_of (list ++ rest))
in_list_after start list rest p h =
    omega (arith, h.steps, h.all_steps, ap length (filter_map-append step_of list rest), length-append (steps_of list) (steps_of rest))

-- a packet that runs in this state fits the list
fits_one : (start : Start) (whole list rest : List Event) (p : Played) (who : Who) (port : ℕ) (packet : List ℕ) → IsAfter start list p → whole ≡ list ++ rest → Fits start whole (carried_packet p who port packet)
fits_one start whole list rest p who port packet h is = record {
  in_list = let P : List Event → Type 0 = λ all. p.steps ≤ length (steps_of all) in subst P (sym is) (in_list_after start list rest p h);
  meant = ap (λ (c : ControlState). meaning.carried who (next_packet who p) p.steps c port packet) (sym (ap (λ all. after start all p.steps) is ∙ state_after start list rest p h));
}

-- so does one that a call makes enter
fits_out : (start : Start) (whole list rest : List Event) (p : Played) (lane : ℕ) (o : Option (List ℕ)) (later : List Carried) → IsAfter start list p → whole ≡ list ++ rest
    → AllByRecursion (Fits start whole) later → AllByRecursion (Fits start whole) (carried_out p lane o ++ later)
fits_out start whole list rest p lane None later h is fits = fits
fits_out start whole list rest p lane (Some packet) later h is fits = (fits_one start whole list rest p (Controller lane) p.control.cpu packet h is, fits)

pub fits_played : (start : Start) (whole : List Event) (p : Played) (tape : List Turn) (list : List Event) → IsAfter start list p
    → whole ≡ list ++ (events_from p tape ++ events.Close ∷ []) → AllByRecursion (Fits start whole) (carried p tape)
fits_played start whole p [] list h is = tt
fits_played start whole p (Answers lane call ∷ tape) list h is =
    let rest : List Event = events_from (play_call p lane call) tape ++ events.Close ∷ [] in
    let behind_is : whole ≡ (list ++ call_events p lane call) ++ rest = is ∙ ap (λ rest. list ++ rest) (append_assoc (call_events p lane call) _ _) ∙ sym (append_assoc list (call_events p lane call) _) in
    fits_out start whole (list ++ call_events p lane call) rest (play_answer p lane call) lane (next_answer p lane call).packet (carried (play_call p lane call) tape) (after_answer start list p lane call h) behind_is
    (fits_played start whole (play_call p lane call) tape (list ++ call_events p lane call) (after_call start list p lane call h) behind_is)
fits_played start whole p (Refuses lane call ∷ tape) list h is =
    fits_played start whole (play_refusal p lane) tape list (record { control = h.control; steps = h.steps; all_steps = h.all_steps }) is
fits_played start whole p (Carries lane port packet ∷ tape) list h is =
    let rest : List Event = events_from (play_packet p (Worker lane) port packet) tape ++ events.Close ∷ [] in (
      fits_one start whole list rest p (Worker lane) port packet h is,
      fits_played start whole (play_packet p (Worker lane) port packet) tape list (record { control = h.control; steps = h.steps; all_steps = h.all_steps }) is,
    )
fits_played start whole p (Finds lane controller call ∷ tape) list h is = fits_played start whole p tape list h is

-- the run in one pass is a run of the tape
pub run_played : (start : Start) (tape : List Turn) → NameMade no_lanes (items_of tape) → IsRun start (items_of tape) (made (begun start) tape) (carried (begun start) tape)
run_played start tape names =
    let p : Played = begun start in
    let follows = lockstep_played start p tape refl in
    let end_is : published start (made p tape) ≡ events_from p tape ++ events.Close ∷ [] = ap (λ list. list ++ events.Close ∷ []) (events_played p tape) in
    let P : List Event → Type 0 = λ list. Legal (opened start) list in
    record {
      calls = λ lane. calls_follow start lane 0 p.figures (items_of tape) _ _ follows;
      numbered = numbered_played p tape;
      history = history_played p tape;
      legal = subst P (sym end_is) (legal_played p tape refl);
      packets = λ lane. packets_follow start lane 0 p.figures (items_of tape) _ _ follows;
      out = λ lane. out_follows start lane 0 p.figures (items_of tape) _ _ follows;
      covers = λ lane. covers_follow start lane 0 p.figures (items_of tape) _ _ follows;
      meets = λ lane. meets_from_start start lane p.figures (items_of tape) _ _ no_lanes (λ controller. omega arith) follows names (rises_played p tape);
      in_turn = in_turn_played p tape tt;
      fits = fits_played start _ p tape [] (record { control = refl; steps = refl; all_steps = refl }) end_is;
    }

-- the state behind turns is that behind their events
pub control_played : (p : Played) (tape : List Turn) → (fold play p tape).control ≡ applied p.control (events_from p tape)
unfolding play
control_played p [] = refl
control_played p (Answers lane call ∷ tape) =
    control_played (play_call p lane call) tape
    ∙ ap (λ (c : ControlState). applied c (events_from (play_call p lane call) tape)) (behind p lane call).control
    ∙ sym (fold-append apply p.control (call_events p lane call) (events_from (play_call p lane call) tape))
control_played p (Refuses lane call ∷ tape) = control_played (play_refusal p lane) tape
control_played p (Carries lane port packet ∷ tape) = control_played (play_packet p (Worker lane) port packet) tape
control_played p (Finds lane controller call ∷ tape) = control_played p tape

-- the counters have counted the packets that were carried
pub figures_played : (p : Played) (tape : List Turn) → (fold play p tape).figures ≡ fold counted p.figures (carried p tape)
unfolding play
figures_played p [] = refl
figures_played p (Answers lane call ∷ tape) =
    let out : List Carried = carried_out (play_answer p lane call) lane (next_answer p lane call).packet in
    figures_played (play_call p lane call) tape
    ∙ ap (λ (g : Figures). fold counted g (carried (play_call p lane call) tape)) (behind p lane call).figures
    ∙ sym (fold-append counted p.figures out (carried (play_call p lane call) tape))
figures_played p (Refuses lane call ∷ tape) = figures_played (play_refusal p lane) tape
figures_played p (Carries lane port packet ∷ tape) = figures_played (play_packet p (Worker lane) port packet) tape
figures_played p (Finds lane controller call ∷ tape) = figures_played p tape

-- the plane that is active at the end
pub final_active : (start : Start) (tape : List Turn) → (final start (made (begun start) tape)).active ≡ (played start tape).control.active
final_active start tape =
    let list : List Event = events_from (begun start) tape in
    let end_is : published start (made (begun start) tape) ≡ list ++ events.Close ∷ [] = ap (λ rest. rest ++ events.Close ∷ []) (events_played (begun start) tape) in
    ap (λ rest. (applied (opened start) rest).active) end_is
    ∙ ap (λ (c : ControlState). c.active) (fold-append apply (opened start) list (events.Close ∷ []))
    ∙ ap (λ (c : ControlState). c.active) (sym (control_played (begun start) tape))

-- what the counters have counted is what the records say
pub lines_played : (start : Start) (tape : List Turn) → NameMade no_lanes (items_of tape)
    → (count_lines (played start tape).figures (played start tape).control.active ≡ counts_in (final start (made (begun start) tape)).active (carried (begun start) tape))
    × (cell_lines (played start tape).figures (played start tape).control.active ≡ cells_in (final start (made (begun start) tape)).active (carried (begun start) tape))
lines_played start tape names =
    let run = run_played start tape names in
    let kept = counters_keep_records start (published start (made (begun start) tape)) (carried (begun start) tape) run.legal run.fits in
    let figures = figures_played (begun start) tape in
    let active = sym (final_active start tape) in (
      ap₂ (λ (g : Figures) (o : Option Plane). count_lines g o) figures active ∙ kept.0,
      ap₂ (λ (g : Figures) (o : Option Plane). cell_lines g o) figures active ∙ kept.1,
    )

abbrev report_with : List Entry → List Record → List CountLine → List CellLine → Report
report_with journal records counts cells = record { journal = journal; sent = []; records = records; counts = counts; cells = cells }

pub report_played : (start : Start) (tape : List Turn) → NameMade no_lanes (items_of tape) → played_report (played start tape) ≡ report_of start (items_of tape) (made (begun start) tape) (carried (begun start) tape)
report_played start tape names =
    let p = played start tape in
    let lines = lines_played start tape names in
    ap (λ x. report_with x p.records (count_lines p.figures p.control.active) (cell_lines p.figures p.control.active)) (journal_played (begun start) tape)
    ∙ ap (λ x. report_with (map (λ m. m.entry) (made (begun start) tape)) x (count_lines p.figures p.control.active) (cell_lines p.figures p.control.active)) (records_played (begun start) tape)
    ∙ ap (λ x. report_with (map (λ m. m.entry) (made (begun start) tape)) (map (λ c. c.outcome) (carried (begun start) tape)) x (cell_lines p.figures p.control.active)) lines.0
    ∙ ap (λ x. report_with (map (λ m. m.entry) (made (begun start) tape)) (map (λ c. c.outcome) (carried (begun start) tape)) (counts_in (final start (made (begun start) tape)).active (carried (begun start) tape)) x) lines.1

-- its text is the lockstep report of the tape
pub played_is_report : (start : Start) (tape : List Turn) → NameMade no_lanes (items_of tape) → IsLockstepReport start (items_of tape) (report_text (played_report (played start tape)))
played_is_report start tape names = record {
  report = record {
    journal = made (begun start) tape;
    records = carried (begun start) tape;
    run = run_played start tape names;
    written = ap report_text (report_played start tape names);
  };
  lockstep = lockstep_played start (begun start) tape refl;
}
