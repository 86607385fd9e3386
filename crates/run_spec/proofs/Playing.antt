-- The run in one pass over the tape is a run of the tape.
use Rattle.std.proofs.Common.{◌≡◌, ℕ, ◌+◌, ◌≤◌, List, [], ◌∷◌, ◌++◌, length, map, Option, Some, None, option_map, refl, ap, ◌∙◌, sym, subst, append_assoc, add-zero, arith}
use Rattle.std.proofs.lemmas.List.{append-nil}
use Rattle.std.proofs.lemmas.Bool.{cond-false}
use Rattle.std.specs.Prelude.{fold}
use Rattle.std.specs.List.{AllByRecursion}
use Rattle.p4_types.specs.declared.events.Start.{Start}
use Rattle.plane_spec.specs.Config.{Event}
use Rattle.p4_types.specs.declared.records.Record.{Record}
use Rattle.p4_types.specs.declared.tape.Who.{Who}
use Rattle.p4_types.specs.declared.tape.Who.TheVariants.{Controller, Worker}
use Rattle.p4_types.specs.declared.tape.TapeRecord.{TapeRecord}
use Rattle.switch_spec.specs.Answer.{answer}
use Rattle.switch_spec.specs.declared.calls.LaneCall.{LaneCall}
use Rattle.switch_spec.specs.declared.calls.LaneCall.TheVariants.{Asks, Leaves}
use Rattle.plane_spec.specs.Planes.{ControlState, applied}
use Rattle.switch_spec.specs.History.{Made, History, Numbered, own_events, steps_of, expected, answered, refused_for_memory}
use Rattle.switch_spec.specs.Counts.{Figures, Carried, counted}
use Rattle.switch_spec.specs.Meaning as meaning
use Rattle.run_spec.specs.Play.{Played, next_call, next_packet, next_answer, play_answer, play_out, play_call, play_refusal, play_packet, Turn, Answers, Refuses, Carries, Finds, call_item, items_of, play}
use Rattle.switch_spec.specs.Carrying.{InTurn, from_cpu, packet_out, is_who}
use Rattle.run_spec.specs.Report.{IsNext, IsFollowed, Lockstep, figures_out, carried_after}
use Rattle.switch_spec.proofs.Answers.{answer_sound}
use Rattle.switch_spec.proofs.CpuPort.{cpu_stays}
use Rattle.plane_spec.proofs.Lists.{All-weaken, All-snoc, All-filter}

-- the events of a lane's next call
abbrev pub call_events : Played → ℕ → LaneCall → List Event
call_events p lane call = (next_answer p lane call).events

-- a lane's next call with its entry
abbrev pub made_call : Played → ℕ → LaneCall → Made
made_call p lane call = record { call = call; figures = p.figures; entry = answered p.control p.figures p.steps lane (next_call lane p) call }

-- a lane's next call, for which there is no memory
abbrev pub made_refusal : Played → ℕ → LaneCall → Made
made_refusal p lane call = record { call = call; figures = p.figures; entry = refused_for_memory p.steps lane (next_call lane p) }

-- a lane's next packet with its record
abbrev pub carried_packet : Played → Who → ℕ → List ℕ → Carried
carried_packet p who port packet = record { arrival = (port, packet); outcome = meaning.carried who (next_packet who p) p.steps p.control port packet }

-- the packet that a call makes enter, if it makes one, with its record
abbrev pub carried_out : Played → ℕ → Option (List ℕ) → List Carried
carried_out p lane None = []
carried_out p lane (Some packet) = carried_packet p (Controller lane) p.control.cpu packet ∷ []

-- the calls that the rest of a tape makes
abbrev pub made : Played → List Turn → List Made
made p [] = []
made p (Answers lane call ∷ tape) = made_call p lane call ∷ made (play_call p lane call) tape
made p (Refuses lane call ∷ tape) = made_refusal p lane call ∷ made (play_refusal p lane) tape
made p (Carries lane port packet ∷ tape) = made (play_packet p (Worker lane) port packet) tape
made p (Finds lane controller call ∷ tape) = made p tape

-- the packets that it brings, and that its calls make enter
abbrev pub carried : Played → List Turn → List Carried
carried p [] = []
carried p (Answers lane call ∷ tape) = carried_out (play_answer p lane call) lane (next_answer p lane call).packet ++ carried (play_call p lane call) tape
carried p (Refuses lane call ∷ tape) = carried (play_refusal p lane) tape
carried p (Carries lane port packet ∷ tape) = carried_packet p (Worker lane) port packet ∷ carried (play_packet p (Worker lane) port packet) tape
carried p (Finds lane controller call ∷ tape) = carried p tape

-- A packet that a call makes enter changes the records and the figures alone.
pub record IsOut (p : Played) (lane : ℕ) (o : Option (List ℕ)) : Type 0 where
  pub control : (play_out p lane o).control ≡ p.control
  pub steps : (play_out p lane o).steps ≡ p.steps
  pub journal : (play_out p lane o).journal ≡ p.journal
  pub records : (play_out p lane o).records ≡ p.records ++ map (λ c. c.outcome) (carried_out p lane o)
  pub figures : (play_out p lane o).figures ≡ fold counted p.figures (carried_out p lane o)

pub is_out : (p : Played) (lane : ℕ) (o : Option (List ℕ)) → IsOut p lane o
is_out p lane None = record { control = refl; steps = refl; journal = refl; records = sym (append-nil p.records); figures = refl }
is_out p lane (Some packet) = record { control = refl; steps = refl; journal = refl; records = refl; figures = refl }

-- the run behind a call's answer, to the packet that it makes enter
pub behind : (p : Played) (lane : ℕ) (call : LaneCall) → IsOut (play_answer p lane call) lane (next_answer p lane call).packet
behind p lane call = is_out (play_answer p lane call) lane (next_answer p lane call).packet

pub journal_played : (p : Played) (tape : List Turn) → (fold play p tape).journal ≡ p.journal ++ map (λ m. m.entry) (made p tape)
unfolding play
journal_played p [] = sym (append-nil p.journal)
journal_played p (Answers lane call ∷ tape) =
    journal_played (play_call p lane call) tape
    ∙ ap (λ j. j ++ map (λ m. m.entry) (made (play_call p lane call) tape)) (behind p lane call).journal
    ∙ append_assoc p.journal _ _
journal_played p (Refuses lane call ∷ tape) = journal_played (play_refusal p lane) tape ∙ append_assoc p.journal _ _
journal_played p (Carries lane port packet ∷ tape) = journal_played (play_packet p (Worker lane) port packet) tape
journal_played p (Finds lane controller call ∷ tape) = journal_played p tape

outcomes_append : (xs ys : List Carried) → map (λ c. c.outcome) (xs ++ ys) ≡ map (λ c. c.outcome) xs ++ map (λ c. c.outcome) ys
outcomes_append [] ys = refl
outcomes_append (x ∷ xs) ys = ap (λ rest. x.outcome ∷ rest) (outcomes_append xs ys)

pub records_played : (p : Played) (tape : List Turn) → (fold play p tape).records ≡ p.records ++ map (λ c. c.outcome) (carried p tape)
unfolding play
records_played p [] = sym (append-nil p.records)
records_played p (Answers lane call ∷ tape) =
    let out : List Carried = carried_out (play_answer p lane call) lane (next_answer p lane call).packet in
    let rest : List Carried = carried (play_call p lane call) tape in
    records_played (play_call p lane call) tape
    ∙ ap (λ (r : List Record). r ++ map (λ c. c.outcome) rest) (behind p lane call).records
    ∙ append_assoc p.records (map (λ c. c.outcome) out) (map (λ c. c.outcome) rest)
    ∙ ap (λ (r : List Record). p.records ++ r) (sym (outcomes_append out rest))
records_played p (Refuses lane call ∷ tape) = records_played (play_refusal p lane) tape
records_played p (Carries lane port packet ∷ tape) = records_played (play_packet p (Worker lane) port packet) tape ∙ append_assoc p.records _ _
records_played p (Finds lane controller call ∷ tape) = records_played p tape

-- a lane's call on the tape is followed by its entry, and only by it
pub lockstep_call : (start : Start) (call : LaneCall) (n : ℕ) (g : Figures) (lane : ℕ) (tape : List TapeRecord) (m : Made) (journal : List Made) (records : List Carried) → IsNext start g lane call m records
    → Lockstep start m.entry.reply.steps (figures_out (packet_out start m) g records) tape journal (carried_after (packet_out start m) records)
    → Lockstep start n g (call_item lane call ∷ tape) (m ∷ journal) records
lockstep_call start (Asks method message) n g lane tape m journal records next rest = (next, rest)
lockstep_call start Leaves n g lane tape m journal records next rest = (next, rest)

-- A packet that a call makes enter follows it.
pub record IsCarriedNext (start : Start) (p : Played) (lane : ℕ) (o : Option (List ℕ)) (m : Made) (rest : List Carried) : Type 0 where
  pub followed : IsFollowed (option_map (from_cpu start) o) m (carried_out p lane o ++ rest)
  pub after : carried_after (option_map (from_cpu start) o) (carried_out p lane o ++ rest) ≡ rest
  pub figures : figures_out (option_map (from_cpu start) o) p.figures (carried_out p lane o ++ rest) ≡ (play_out p lane o).figures

pub carried_next : (start : Start) (p : Played) (lane : ℕ) (o : Option (List ℕ)) (m : Made) (rest : List Carried) → p.control.cpu ≡ start.cpu → m.entry.lane ≡ lane → m.entry.reply.steps ≡ p.steps
    → IsCarriedNext start p lane o m rest
carried_next start p lane None m rest cpu lane_is steps = record { followed = tt; after = refl; figures = refl }
carried_next start p lane (Some packet) m rest cpu lane_is steps = record {
  followed = (ap (λ (l : ℕ). Controller l) (sym lane_is), ap (λ (port : ℕ). (port, packet)) cpu, sym steps);
  after = refl;
  figures = refl;
}

-- the CPU port behind a call
pub cpu_behind : (start : Start) (p : Played) (lane : ℕ) (call : LaneCall) → p.control.cpu ≡ start.cpu → (play_answer p lane call).control.cpu ≡ start.cpu
cpu_behind start p lane call cpu = cpu_stays (call_events p lane call) p.control ∙ cpu

pub lockstep_played : (start : Start) (p : Played) (tape : List Turn) → p.control.cpu ≡ start.cpu → Lockstep start p.steps p.figures (items_of tape) (made p tape) (carried p tape)
lockstep_played start p [] cpu = (refl, refl)
lockstep_played start p (Answers lane call ∷ tape) cpu =
    let q : Played = play_answer p lane call in
    let o : Option (List ℕ) = (next_answer p lane call).packet in
    let m : Made = made_call p lane call in
    let rest : List Carried = carried (play_call p lane call) tape in
    let cpu_q = cpu_behind start p lane call cpu in
    let cpu_r : (play_call p lane call).control.cpu ≡ start.cpu = ap (λ (c : ControlState). c.cpu) (behind p lane call).control ∙ cpu_q in
    let follows = carried_next start q lane o m rest cpu_q refl refl in
    let L : ℕ → Figures → List Carried → Type 0 = λ n g r. Lockstep start n g (items_of tape) (made (play_call p lane call) tape) r in
    let later : L (play_call p lane call).steps (play_call p lane call).figures rest = lockstep_played start (play_call p lane call) tape cpu_r in
    let at_steps : L q.steps (play_call p lane call).figures rest = subst (λ n. L n (play_call p lane call).figures rest) (behind p lane call).steps later in
    let at_figures : L q.steps (figures_out (packet_out start m) p.figures (carried_out q lane o ++ rest)) rest = subst (λ (g : Figures). L q.steps g rest) (sym follows.figures) at_steps in
    lockstep_call start call p.steps p.figures lane (items_of tape) m (made (play_call p lane call) tape) (carried_out q lane o ++ rest)
    (record { lane_is = refl; call_is = refl; figures_are = refl; followed = follows.followed })
    (subst (λ (r : List Carried). L q.steps (figures_out (packet_out start m) p.figures (carried_out q lane o ++ rest)) r) (sym follows.after) at_figures)
lockstep_played start p (Refuses lane call ∷ tape) cpu =
    lockstep_call start call p.steps p.figures lane (items_of tape) (made_refusal p lane call) _ _ (record { lane_is = refl; call_is = refl; figures_are = refl; followed = tt })
    (lockstep_played start (play_refusal p lane) tape cpu)
lockstep_played start p (Carries lane port packet ∷ tape) cpu = (refl, refl, refl, lockstep_played start (play_packet p (Worker lane) port packet) tape cpu)
lockstep_played start p (Finds lane controller call ∷ tape) cpu = lockstep_played start p tape cpu

-- a call that is answered has the entry that it has to have, and its events are its own
pub is_expected : (c : ControlState) (g : Figures) (n lane k : ℕ) (call : LaneCall)
    → answered c g n lane k call ≡ expected c n (record { call = call; figures = g; entry = answered c g n lane k call })
is_expected c g n lane k call = sym (cond-false _ _ _ (answer_sound c g lane k call).available)

pub own_events_of : (c : ControlState) (g : Figures) (n lane k : ℕ) (call : LaneCall)
    → own_events c (record { call = call; figures = g; entry = answered c g n lane k call }) ≡ (answer c g lane k call).events
own_events_of c g n lane k call = cond-false _ _ _ (answer_sound c g lane k call).available

pub history_played : (p : Played) (tape : List Turn) → History p.control p.steps (made p tape)
history_played p [] = tt
history_played p (Answers lane call ∷ tape) =
    let q : Played = play_answer p lane call in
    let rest : List Made = made (play_call p lane call) tape in
    let later : History (play_call p lane call).control (play_call p lane call).steps rest = history_played (play_call p lane call) tape in
    let at_steps : History (play_call p lane call).control q.steps rest = subst (λ n. History (play_call p lane call).control n rest) (behind p lane call).steps later in
    let at_control : History q.control q.steps rest = subst (λ (c : ControlState). History c q.steps rest) (behind p lane call).control at_steps in (
      is_expected p.control p.figures p.steps lane (next_call lane p) call,
      let P : List Event → Type 0 = λ list. History (applied p.control list) q.steps rest in
          subst P (sym (own_events_of p.control p.figures p.steps lane (next_call lane p) call)) at_control,
    )
history_played p (Refuses lane call ∷ tape) =
    let P : ℕ → Type 0 = λ n. History p.control n (made (play_refusal p lane) tape) in (refl, subst P (sym (add-zero p.steps)) (history_played (play_refusal p lane) tape))
history_played p (Carries lane port packet ∷ tape) = history_played (play_packet p (Worker lane) port packet) tape
history_played p (Finds lane controller call ∷ tape) = history_played p tape

pub numbered_played : (p : Played) (tape : List Turn) → Numbered p.journal (map (λ m. m.entry) (made p tape))
numbered_played p [] = tt
numbered_played p (Answers lane call ∷ tape) =
    (refl, subst (λ j. Numbered j (map (λ m. m.entry) (made (play_call p lane call) tape))) (behind p lane call).journal (numbered_played (play_call p lane call) tape))
numbered_played p (Refuses lane call ∷ tape) = (refl, numbered_played (play_refusal p lane) tape)
numbered_played p (Carries lane port packet ∷ tape) = numbered_played (play_packet p (Worker lane) port packet) tape
numbered_played p (Finds lane controller call ∷ tape) = numbered_played p tape

-- no call of a journal is after fewer steps than one before it, and none after fewer than n
abbrev pub Rises : ℕ → List Made → Type 0
Rises n [] = Unit {0}
Rises n (made ∷ journal) = (n ≤ made.entry.reply.steps) × Rises made.entry.reply.steps journal

pub rises_played : (p : Played) (tape : List Turn) → Rises p.steps (made p tape)
rises_played p [] = tt
rises_played p (Answers lane call ∷ tape) =
    let rest : List Made = made (play_call p lane call) tape in
    let later : Rises (play_call p lane call).steps rest = rises_played (play_call p lane call) tape in
    (omega arith, subst (λ (n : ℕ). Rises n rest) (behind p lane call).steps later)
rises_played p (Refuses lane call ∷ tape) = (omega arith, rises_played (play_refusal p lane) tape)
rises_played p (Carries lane port packet ∷ tape) = rises_played (play_packet p (Worker lane) port packet) tape
rises_played p (Finds lane controller call ∷ tape) = rises_played p tape

-- none of the records is after more steps
abbrev pub AreSoFar : Played → Type 0
AreSoFar p = AllByRecursion (λ r. r.steps ≤ p.steps) p.records

so_far_out : (p : Played) (lane : ℕ) (o : Option (List ℕ)) → AreSoFar p → AreSoFar (play_out p lane o)
so_far_out p lane None h = h
so_far_out p lane (Some packet) h = All-snoc (λ r. r.steps ≤ p.steps) p.records _ h (omega arith)

in_turn_out : (p : Played) (lane : ℕ) (o : Option (List ℕ)) (rest : List Carried) → AreSoFar p → InTurn (play_out p lane o).records (map (λ c. c.outcome) rest)
    → InTurn p.records (map (λ c. c.outcome) (carried_out p lane o ++ rest))
in_turn_out p lane None rest h later = later
in_turn_out p lane (Some packet) rest h later = (refl, All-filter (λ r. r.steps ≤ p.steps) (λ r. is_who (Controller lane) r.who) p.records h, later)

pub in_turn_played : (p : Played) (tape : List Turn) → AreSoFar p → InTurn p.records (map (λ c. c.outcome) (carried p tape))
in_turn_played p [] h = tt
in_turn_played p (Answers lane call ∷ tape) h =
    let q : Played = play_answer p lane call in
    let o : Option (List ℕ) = (next_answer p lane call).packet in
    let so_far : AreSoFar q = All-weaken (λ r. r.steps ≤ p.steps) (λ r. r.steps ≤ p.steps + length (steps_of (call_events p lane call))) (λ r le. omega (arith, le)) p.records h in
    in_turn_out q lane o (carried (play_call p lane call) tape) so_far (in_turn_played (play_call p lane call) tape (so_far_out q lane o so_far))
in_turn_played p (Refuses lane call ∷ tape) h = in_turn_played (play_refusal p lane) tape h
in_turn_played p (Carries lane port packet ∷ tape) h = (
  refl,
  All-filter (λ r. r.steps ≤ p.steps) (λ r. is_who (Worker lane) r.who) p.records h,
  in_turn_played (play_packet p (Worker lane) port packet) tape (All-snoc (λ r. r.steps ≤ p.steps) p.records _ h (omega arith)),
)
in_turn_played p (Finds lane controller call ∷ tape) h = in_turn_played p tape h
