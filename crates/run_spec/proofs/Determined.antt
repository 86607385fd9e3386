-- A run that follows the tape, with no call refused for memory, is the run in one pass.
use Rattle.std.proofs.Common.{◌≡◌, ℕ, ◌+◌, false, List, [], ◌∷◌, ◌++◌, length, map, Option, Some, None, option_map, refl, ap, ◌∙◌, sym, subst, append_assoc}
use Rattle.std.proofs.lemmas.Bool.{cond-false}
use Rattle.std.specs.Prelude.{count_by, ◌==◌}
use Rattle.std.specs.List.{AllByRecursion}
use Rattle.p4_types.specs.declared.events.Event.TheVariants as events
use Rattle.p4_types.specs.declared.events.Start.{Start}
use Rattle.p4_types.specs.declared.journal.Entry.{Entry}
use Rattle.p4_types.specs.declared.records.Record.{Record}
use Rattle.p4_types.specs.declared.tape.TapeRecord.{TapeRecord}
use Rattle.p4_types.specs.declared.tape.TapeRecord.TheVariants.{Call, Packet, Leave, Meet}
use Rattle.p4_types.specs.declared.tape.Who.{Who}
use Rattle.p4_types.specs.declared.tape.Who.TheVariants.{Controller, Worker}
use Rattle.switch_spec.specs.declared.calls.LaneCall.{LaneCall}
use Rattle.switch_spec.specs.declared.calls.LaneCall.TheVariants.{Asks, Leaves}
use Rattle.plane_spec.specs.Config.{Event}
use Rattle.plane_spec.specs.Planes.{ControlState, applied, after}
use Rattle.switch_spec.specs.History.{Made, History, Numbered, own_events, journal_events, published, is_refused_for_memory, expected, answered}
use Rattle.switch_spec.specs.Counts.{Figures, no_figures, Arrival, Carried, counted}
use Rattle.switch_spec.specs.Meaning as meaning
use Rattle.run_spec.specs.Play.{Played, begun, next_call, next_packet, next_answer, play_answer, play_out, play_call, play_packet, call_item, answering}
use Rattle.switch_spec.specs.Carrying.{Fits, InTurn, from_cpu, packet_out, is_who}
use Rattle.run_spec.specs.Report.{IsNext, IsFollowed, IsLockstepReport, Lockstep, figures_out, carried_after, TapeDeterminesReport, report_of}
use Rattle.run_spec.specs.ReportText.{report_text}
use Rattle.run_spec.proofs.Fitting.{IsAfter, after_answer, after_call, cpu_after, state_after}
use Rattle.run_spec.proofs.Playing.{call_events, made_call, carried_packet, carried_out, carried_next, made, carried, behind, own_events_of}

-- no call of the journal was refused for memory
abbrev pub NoneRefused : List Made → Type 0
NoneRefused journal = AllByRecursion (λ m. is_refused_for_memory m ≡ false) journal

-- what is asked of the rest of a run, after the events in list
record Rest (start : Start) (whole list : List Event) (p : Played) (tape : List TapeRecord) (journal : List Made) (records : List Carried) : Type 0 where
  follows : Lockstep start p.steps p.figures tape journal records
  history : History p.control p.steps journal
  none_refused : NoneRefused journal
  numbered : Numbered p.journal (map (λ m. m.entry) journal)
  in_turn : InTurn p.records (map (λ c. c.outcome) records)
  fits : AllByRecursion (Fits start whole) records
  is : whole ≡ list ++ (journal_events p.control journal ++ events.Close ∷ [])

first_made : (p : Played) (lane : ℕ) (call : LaneCall) (m : Made) → m.entry.lane ≡ lane → m.call ≡ call → m.figures ≡ p.figures → m.entry ≡ expected p.control p.steps m
    → is_refused_for_memory m ≡ false → m.entry.call ≡ count_by (λ e. e.lane == m.entry.lane) p.journal + 1 → m ≡ made_call p lane call
first_made p lane call m lane_is call_is figures_are entry_is answered_is number_is =
    let number : m.entry.call ≡ next_call lane p = number_is ∙ ap (λ l. count_by (λ e. e.lane == l) p.journal + 1) lane_is in
    let entry : m.entry ≡ answered p.control p.figures p.steps lane (next_call lane p) call =
    entry_is ∙ cond-false _ _ _ answered_is
    ∙ ap (λ (g : Figures). answered p.control g p.steps m.entry.lane m.entry.call m.call) figures_are
    ∙ ap (λ l. answered p.control p.figures p.steps l m.entry.call m.call) lane_is
    ∙ ap (λ k. answered p.control p.figures p.steps lane k m.call) number
    ∙ ap (λ c. answered p.control p.figures p.steps lane (next_call lane p) c) call_is in
    ap (λ (c : LaneCall). let made_of : Made = record { call = c; figures = m.figures; entry = m.entry } in made_of) call_is
    ∙ ap (λ (g : Figures). let made_of : Made = record { call = call; figures = g; entry = m.entry } in made_of) figures_are
    ∙ ap (λ (e : Entry). let made_of : Made = record { call = call; figures = p.figures; entry = e } in made_of) entry

-- the entry that follows a lane's call on the tape
follows_call : (start : Start) (call : LaneCall) (n : ℕ) (g : Figures) (lane : ℕ) (tape : List TapeRecord) (m : Made) (journal : List Made) (records : List Carried) → Lockstep start n g (call_item lane call ∷ tape) (m ∷ journal) records
    → IsNext start g lane call m records × Lockstep start m.entry.reply.steps (figures_out (packet_out start m) g records) tape journal (carried_after (packet_out start m) records)
follows_call start (Asks method message) n g lane tape m journal records h = h
follows_call start Leaves n g lane tape m journal records h = h

-- the first entry of a run that goes on with a lane's call
first_of_call : (start : Start) (whole list : List Event) (p : Played) (lane : ℕ) (call : LaneCall) (tape : List TapeRecord) (m : Made) (journal : List Made) (records : List Carried)
    → Rest start whole list p (call_item lane call ∷ tape) (m ∷ journal) records → m ≡ made_call p lane call
first_of_call start whole list p lane call tape m journal records rest =
    let next = (follows_call start call p.steps p.figures lane tape m journal records rest.follows).0 in
    first_made p lane call m next.lane_is next.call_is next.figures_are rest.history.0 rest.none_refused.0 rest.numbered.0

first_carried : (start : Start) (whole list rest : List Event) (p : Played) (who : Who) (port : ℕ) (packet : List ℕ) (x : Carried) → IsAfter start list p → whole ≡ list ++ rest
    → x.outcome.who ≡ who → x.arrival ≡ (port, packet) → x.outcome.steps ≡ p.steps
    → x.outcome.index ≡ count_by (λ e. is_who x.outcome.who e.who) p.records + 1 → Fits start whole x → x ≡ carried_packet p who port packet
first_carried start whole list rest p who port packet x h is who_is arrival_is steps_are index_is fits =
    let r : Record = x.outcome in
    let index : r.index ≡ next_packet who p = index_is ∙ ap (λ w. count_by (λ e. is_who w e.who) p.records + 1) who_is in
    let state : after start whole p.steps ≡ p.control = ap (λ all. after start all p.steps) is ∙ state_after start list rest p h in
    let outcome : r ≡ meaning.carried who (next_packet who p) p.steps p.control port packet =
    fits.meant
    ∙ ap (λ w. meaning.carried w r.index r.steps (after start whole r.steps) x.arrival.0 x.arrival.1) who_is
    ∙ ap (λ i. meaning.carried who i r.steps (after start whole r.steps) x.arrival.0 x.arrival.1) index
    ∙ ap (λ n. meaning.carried who (next_packet who p) n (after start whole n) x.arrival.0 x.arrival.1) steps_are
    ∙ ap (λ (c : ControlState). meaning.carried who (next_packet who p) p.steps c x.arrival.0 x.arrival.1) state
    ∙ ap (λ (a : Arrival). meaning.carried who (next_packet who p) p.steps p.control a.0 a.1) arrival_is in
    ap (λ (a : Arrival). let carried_of : Carried = record { arrival = a; outcome = r } in carried_of) arrival_is
    ∙ ap (λ (o : Record). let carried_of : Carried = record { arrival = (port, packet); outcome = o } in carried_of) outcome

-- the packet that a call makes enter is the first of those that follow it
first_out : (start : Start) (whole list rest : List Event) (p : Played) (lane : ℕ) (o : Option (List ℕ)) (m : Made) (records : List Carried) → IsAfter start list p → whole ≡ list ++ rest
    → m.entry.lane ≡ lane → m.entry.reply.steps ≡ p.steps → IsFollowed (option_map (from_cpu start) o) m records → InTurn p.records (map (λ c. c.outcome) records) → AllByRecursion (Fits start whole) records
    → records ≡ carried_out p lane o ++ carried_after (option_map (from_cpu start) o) records
first_out start whole list rest p lane None m records h is lane_is steps followed in_turn fits = refl
first_out start whole list rest p lane (Some packet) m [] h is lane_is steps followed in_turn fits = absurd followed
first_out start whole list rest p lane (Some packet) m (x ∷ records) h is lane_is steps followed in_turn fits =
    ap (λ (y : Carried). y ∷ records)
    (first_carried start whole list rest p (Controller lane) p.control.cpu packet x h is
    (followed.0 ∙ ap (λ (l : ℕ). Controller l) lane_is)
    (followed.1 ∙ ap (λ (port : ℕ). (port, packet)) (sym (cpu_after start list p h)))
    (followed.2 ∙ steps) in_turn.0 fits.0)

in_turn_behind : (p : Played) (lane : ℕ) (o : Option (List ℕ)) (rest : List Carried) → InTurn p.records (map (λ c. c.outcome) (carried_out p lane o ++ rest)) → InTurn (play_out p lane o).records (map (λ c. c.outcome) rest)
in_turn_behind p lane None rest h = h
in_turn_behind p lane (Some packet) rest h = h.2

fits_behind : (start : Start) (whole : List Event) (p : Played) (lane : ℕ) (o : Option (List ℕ)) (rest : List Carried) → AllByRecursion (Fits start whole) (carried_out p lane o ++ rest) → AllByRecursion (Fits start whole) rest
fits_behind start whole p lane None rest h = h
fits_behind start whole p lane (Some packet) rest h = h.1

-- the packets behind a lane's next call
abbrev packets_behind : Start → Played → ℕ → LaneCall → List Carried → List Carried
packets_behind start p lane call records = carried_after (packet_out start (made_call p lane call)) records

-- what follows a lane's next call: the packet that it makes enter, then the others
split_call : (start : Start) (whole list : List Event) (p : Played) (lane : ℕ) (call : LaneCall) (tape : List TapeRecord) (m : Made) (journal : List Made) (records : List Carried)
    → m ≡ made_call p lane call → IsAfter start list p → Rest start whole list p (call_item lane call ∷ tape) (m ∷ journal) records
    → records ≡ carried_out (play_answer p lane call) lane (next_answer p lane call).packet ++ packets_behind start p lane call records
split_call start whole list p lane call tape m journal records is h rest =
    let own : own_events p.control m ≡ call_events p lane call = ap (own_events p.control) is ∙ own_events_of p.control p.figures p.steps lane (next_call lane p) call in
    let later : List Event = journal_events (applied p.control (call_events p lane call)) journal ++ events.Close ∷ [] in
    let whole_is : whole ≡ (list ++ call_events p lane call) ++ later =
    rest.is
    ∙ ap (λ (own : List Event). list ++ ((own ++ journal_events (applied p.control own) journal) ++ events.Close ∷ [])) own
    ∙ ap (λ (rest : List Event). list ++ rest) (append_assoc (call_events p lane call) _ _)
    ∙ sym (append_assoc list (call_events p lane call) _) in
    let F : Made → Type 0 = λ x. IsFollowed (packet_out start x) x records in
    let followed : F (made_call p lane call) = subst F is (follows_call start call p.steps p.figures lane tape m journal records rest.follows).0.followed in
    first_out start whole (list ++ call_events p lane call) later (play_answer p lane call) lane (next_answer p lane call).packet (made_call p lane call) records (after_answer start list p lane call h) whole_is refl refl
    followed rest.in_turn rest.fits

rest_of_call : (start : Start) (whole list : List Event) (p : Played) (lane : ℕ) (call : LaneCall) (tape : List TapeRecord) (m : Made) (journal : List Made) (records : List Carried)
    → m ≡ made_call p lane call → IsAfter start list p → Rest start whole list p (call_item lane call ∷ tape) (m ∷ journal) records
    → Rest start whole (list ++ call_events p lane call) (play_call p lane call) tape journal (packets_behind start p lane call records)
rest_of_call start whole list p lane call tape m journal records is at h =
    let q : Played = play_answer p lane call in
    let o : Option (List ℕ) = (next_answer p lane call).packet in
    let out : List Carried = carried_out q lane o in
    let rest : List Carried = packets_behind start p lane call records in
    let split : records ≡ out ++ rest = split_call start whole list p lane call tape m journal records is at h in
    let next = carried_next start q lane o (made_call p lane call) rest (cpu_after start (list ++ call_events p lane call) q (after_answer start list p lane call at)) refl refl in
    let own : own_events p.control m ≡ call_events p lane call = ap (own_events p.control) is ∙ own_events_of p.control p.figures p.steps lane (next_call lane p) call in
    let figures : figures_out (packet_out start (made_call p lane call)) p.figures records ≡ (play_call p lane call).figures =
    ap (λ (r : List Carried). figures_out (packet_out start (made_call p lane call)) p.figures r) split ∙ next.figures in
    let F : Made → Type 0 = λ x. Lockstep start x.entry.reply.steps (figures_out (packet_out start x) p.figures records) tape journal (carried_after (packet_out start x) records) in
    let lockstep : F (made_call p lane call) = subst F is (follows_call start call p.steps p.figures lane tape m journal records h.follows).1 in
    let lockstep_figures : Lockstep start q.steps (play_call p lane call).figures tape journal rest = subst (λ (g : Figures). Lockstep start q.steps g tape journal rest) figures lockstep in
    let H : Made → Type 0 = λ x. History (applied p.control (call_events p lane call)) (p.steps + length x.entry.steps) journal in
    let G : List Event → Type 0 = λ own. History (applied p.control own) (p.steps + length m.entry.steps) journal in
    let history : History q.control q.steps journal = subst H is (subst G own h.history.1) in
    let history_steps : History q.control (play_call p lane call).steps journal = subst (λ (n : ℕ). History q.control n journal) (sym (behind p lane call).steps) history in
    let N : Made → Type 0 = λ x. Numbered (p.journal ++ x.entry ∷ []) (map (λ y. y.entry) journal) in
    let numbered : Numbered q.journal (map (λ y. y.entry) journal) = subst N is h.numbered.1 in
    let T : List Carried → Type 0 = λ r. InTurn p.records (map (λ c. c.outcome) r) in
    let W : List Carried → Type 0 = λ r. AllByRecursion (Fits start whole) r in
    record {
      follows = subst (λ (n : ℕ). Lockstep start n (play_call p lane call).figures tape journal rest) (sym (behind p lane call).steps) lockstep_figures;
      history = subst (λ (c : ControlState). History c (play_call p lane call).steps journal) (sym (behind p lane call).control) history_steps;
      none_refused = h.none_refused.1;
      numbered = subst (λ (j : List Entry). Numbered j (map (λ y. y.entry) journal)) (sym (behind p lane call).journal) numbered;
      in_turn = in_turn_behind q lane o rest (subst T split h.in_turn);
      fits = fits_behind start whole q lane o rest (subst W split h.fits);
      is = h.is
          ∙ ap (λ (own : List Event). list ++ ((own ++ journal_events (applied p.control own) journal) ++ events.Close ∷ [])) own
          ∙ ap (λ (rest : List Event). list ++ rest) (append_assoc (call_events p lane call) _ _)
          ∙ sym (append_assoc list (call_events p lane call) _)
          ∙ ap (λ (c : ControlState). (list ++ call_events p lane call) ++ (journal_events c journal ++ events.Close ∷ [])) (sym (behind p lane call).control);
    }

-- with the first entry and the packet that it makes enter in front
made_first : (m n : Made) (journal others : List Made) (records out rest same : List Carried) → m ≡ n → records ≡ out ++ rest → (journal ≡ others) × (rest ≡ same) → (m ∷ journal ≡ n ∷ others) × (records ≡ out ++ same)
made_first m n journal others records out rest same is split later = (
  ap (λ (x : Made). x ∷ journal) is ∙ ap (λ (j : List Made). n ∷ j) later.0,
  split ∙ ap (λ (r : List Carried). out ++ r) later.1,
)

rest_of_packet : (start : Start) (whole list : List Event) (p : Played) (lane port : ℕ) (packet : List ℕ) (tape : List TapeRecord) (journal : List Made) (x : Carried) (records : List Carried)
    → x ≡ carried_packet p (Worker lane) port packet → Rest start whole list p (Packet lane port packet ∷ tape) journal (x ∷ records)
    → Rest start whole list (play_packet p (Worker lane) port packet) tape journal records
rest_of_packet start whole list p lane port packet tape journal x records is h =
    let T : Carried → Type 0 = λ y. InTurn (p.records ++ y.outcome ∷ []) (map (λ c. c.outcome) records) in
    let L : Carried → Type 0 = λ y. Lockstep start p.steps (counted p.figures y) tape journal records in
    record {
      follows = subst L is h.follows.3;
      history = h.history;
      none_refused = h.none_refused;
      numbered = h.numbered;
      in_turn = subst T is h.in_turn.2;
      fits = h.fits.1;
      is = h.is;
    }

-- the rest of the run is the rest of the run in one pass
determined : (start : Start) (whole list : List Event) (p : Played) (tape : List TapeRecord) (journal : List Made) (records : List Carried) → IsAfter start list p
    → Rest start whole list p tape journal records → (journal ≡ made p (map answering tape)) × (records ≡ carried p (map answering tape))
determined start whole list p [] journal records h rest = (rest.follows.0, rest.follows.1)
determined start whole list p (Call lane method message ∷ tape) [] records h rest = absurd rest.follows
determined start whole list p (Call lane method message ∷ tape) (m ∷ journal) records h rest =
    let call : LaneCall = Asks method message in
    let first : m ≡ made_call p lane call = first_of_call start whole list p lane call tape m journal records rest in
    made_first m (made_call p lane call) journal _ records _ (packets_behind start p lane call records) _ first
    (split_call start whole list p lane call tape m journal records first h rest)
    (determined start whole (list ++ call_events p lane call) (play_call p lane call) tape journal (packets_behind start p lane call records) (after_call start list p lane call h)
    (rest_of_call start whole list p lane call tape m journal records first h rest))
determined start whole list p (Leave lane ∷ tape) [] records h rest = absurd rest.follows
determined start whole list p (Leave lane ∷ tape) (m ∷ journal) records h rest =
    let call : LaneCall = Leaves in
    let first : m ≡ made_call p lane call = first_of_call start whole list p lane call tape m journal records rest in
    made_first m (made_call p lane call) journal _ records _ (packets_behind start p lane call records) _ first
    (split_call start whole list p lane call tape m journal records first h rest)
    (determined start whole (list ++ call_events p lane call) (play_call p lane call) tape journal (packets_behind start p lane call records) (after_call start list p lane call h)
    (rest_of_call start whole list p lane call tape m journal records first h rest))
determined start whole list p (Packet lane port packet ∷ tape) journal [] h rest = absurd rest.follows
determined start whole list p (Packet lane port packet ∷ tape) journal (x ∷ records) h rest =
    let first : x ≡ carried_packet p (Worker lane) port packet = first_carried start whole list _ p (Worker lane) port packet x h rest.is
    rest.follows.0 rest.follows.1 rest.follows.2 rest.in_turn.0 rest.fits.0 in
    let later = determined start whole list (play_packet p (Worker lane) port packet) tape journal records (record { control = h.control; steps = h.steps; all_steps = h.all_steps })
    (rest_of_packet start whole list p lane port packet tape journal x records first rest) in
    (later.0, ap (λ (y : Carried). y ∷ records) first ∙ ap (λ (r : List Carried). carried_packet p (Worker lane) port packet ∷ r) later.1)
determined start whole list p (Meet lane controller call ∷ tape) journal records h rest =
    determined start whole list p tape journal records h
    (record { follows = rest.follows; history = rest.history; none_refused = rest.none_refused; numbered = rest.numbered; in_turn = rest.in_turn; fits = rest.fits; is = rest.is })

-- a lockstep run with no call refused for memory is the run in one pass
pub only_run : (start : Start) (tape : List TapeRecord) (text : List ℕ) (a : IsLockstepReport start tape text) → NoneRefused a.report.journal
    → (a.report.journal ≡ made (begun start) (map answering tape)) × (a.report.records ≡ carried (begun start) (map answering tape))
only_run start tape text a none =
    let run = a.report.run in
    determined start (published start a.report.journal) [] (begun start) tape a.report.journal a.report.records
    (record { control = refl; steps = refl; all_steps = refl })
    (record { follows = a.lockstep; history = run.history; none_refused = none; numbered = run.numbered; in_turn = run.in_turn; fits = run.fits; is = refl })

-- a lockstep report with no call refused for memory has the text of the run in one pass
pub only_text : (start : Start) (tape : List TapeRecord) (text : List ℕ) (a : IsLockstepReport start tape text) → NoneRefused a.report.journal
    → text ≡ report_text (report_of start tape (made (begun start) (map answering tape)) (carried (begun start) (map answering tape)))
only_text start tape text a none =
    let same = only_run start tape text a none in
    a.report.written ∙ ap (λ j. report_text (report_of start tape j a.report.records)) same.0 ∙ ap (λ r. report_text (report_of start tape (made (begun start) (map answering tape)) r)) same.1

pub tape_determines : TapeDeterminesReport
tape_determines start tape one other a b left right = only_text start tape one a left ∙ sym (only_text start tape other b right)
