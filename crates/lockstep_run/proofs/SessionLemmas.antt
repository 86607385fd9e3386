-- A call that was handled, with its entry in the journal, is one more turn of the run.
use Rattle.std.proofs.Common.{OnOk, IfSome, Result, Ok, Err, Option, Some, None, ◌≡◌, ℕ, ◌+◌, ◌-◌, ◌^◌, ◌<◌, ◌≤◌, ◌==◌, Bool, true, false, cond, List, [], ◌∷◌, ◌++◌, length, drop, slice_index, set, refl, ap, ◌∙◌, sym, subst, ◌⊎◌, inl, inr, arith, add-zero, length-set, length-append}
use Rattle.std.proofs.lemmas.List.{append-nil, get_or-set_same, get_or-set_other}
use Rattle.std.proofs.Math.Seq.{drop-append_seam}
use Rattle.std.proofs.lemmas.List.Sums.{sum_by-append, count_by-le-length, fold-append}
use Rattle.std.proofs.lemmas.Bool.{eqb-true, eqb-false}
use Rattle.std.specs.Prelude.{count_by, sum_by}
use Rattle.std.specs.List.{filter_map}
use Rattle.p4_types.specs.declared.calls.Call as calls
use Rattle.p4_types.specs.declared.calls.Reply.{Reply}
use Rattle.p4_types.specs.declared.journal.Entry.{Entry}
use Rattle.p4_types.specs.declared.journal.Step.{Step}
use Rattle.p4_types.specs.declared.records.Record.{Record}
use Rattle.p4_types.specs.declared.tape.TapeRecord.TheVariants.{Packet}
use Rattle.p4_types.specs.declared.tape.Who.{Who}
use Rattle.p4_types.specs.declared.tape.Who.TheVariants.{Controller, Worker}
use Rattle.ctl_core.specs.Core.{Core, HandledBy, IsAnswered, IsRefused, raised, replied, without_memory}
use Rattle.plane_spec.specs.Config.{Event}
use Rattle.plane_spec.specs.Planes.{ControlState, opened, apply, applied}
use Rattle.switch_spec.specs.Answer.{Answer, called, answer, answer_to}
use Rattle.switch_spec.specs.declared.calls.LaneCall.{LaneCall}
use Rattle.slot_totals.specs.State.{TotalsState, figures}
use Rattle.switch_spec.specs.Counts.{Figures, figures_after}
use Rattle.switch_spec.specs.History.{is_unavailable, step_of, steps_of, reply_of}
use Rattle.switch_spec.specs.Meaning.{carried}
use Rattle.run_spec.specs.Play.{Played, next_call, next_packet, next_answer, play_answer, play_refusal, play_out, play_packet, play}
use Rattle.switch_spec.proofs.Answers.{answer_to_sound}
use Rattle.lockstep_run.specs.Session.{State, played_of, IsSession, IsHandled, IsEntered, IsCarried, IsOut, IsCompleted, TakesPacket, entry_of, PlaysCall, Plays, HasRoom}

-- a run by its parts
abbrev pub run_of : ControlState → ℕ → List Entry → List Record → Figures → Played
run_of c n journal records figures = record { control = c; steps = n; journal = journal; records = records; figures = figures }

same_run : (c d : ControlState) (n m : ℕ) (j k : List Entry) (r q : List Record) (s t : Figures) → c ≡ d → n ≡ m → j ≡ k → r ≡ q → s ≡ t → run_of c n j r s ≡ run_of d m k q t
same_run c d n m j k r q s t e f g h i =
    ap (λ x. run_of x n j r s) e ∙ ap (λ x. run_of d x j r s) f ∙ ap (λ x. run_of d m x r s) g ∙ ap (λ x. run_of d m k x s) h ∙ ap (λ x. run_of d m k q x) i

same_entry : (lane k l : ℕ) (s t : List Step) (a b : Reply) → k ≡ l → s ≡ t → a ≡ b → entry_of lane k s a ≡ entry_of lane l t b
same_entry lane k l s t a b e f g = ap (λ x. entry_of lane x s a) e ∙ ap (λ x. entry_of lane l x a) f ∙ ap (λ x. entry_of lane l t x) g

-- the state with the call's entry in the journal
abbrev pub with_entry : State → Entry → State
with_entry s entry = record s { journal = s.journal ++ entry ∷ [] }

-- a count that does not reach the end is a sum
raised_is : (count more : ℕ) → count + more ≤ 2 ^ 64 - 1 → raised count more ≡ count + more
raised_is count more h = omega (arith, h)

-- the control state is still the one behind the events
pub still_agrees : (b : Bool) (start old new : ControlState) (steps : ℕ) (given now : List Event) (a : Answer) (reply : Reply) → applied start given ≡ old
    → HandledBy b old steps given a reply new now → applied start now ≡ new
still_agrees true start old new steps given now a reply is h = ap (applied start) h.handed ∙ is ∙ sym h.control
still_agrees false start old new steps given now a reply is h =
    ap (applied start) h.handed ∙ fold-append apply start given a.events ∙ ap (λ c. applied c a.events) is ∙ sym h.control

-- the number of a lane's next call is that of its calls and one
next_is : (s : State) (lane : ℕ) → IsSession s → HasRoom s → lane < 32 → raised (slice_index s.core.calls lane) 1 ≡ next_call lane (played_of s)
next_is s lane h room below =
    let few = count_by-le-length (λ (entry : Entry). entry.lane == lane) s.journal in
    ap (λ n. raised n 1) (h.counted lane below) ∙ raised_is _ 1 (omega (arith, few, room.calls))

-- the steps of what was handed on
new_steps : (old new added : List Event) → new ≡ old ++ added → filter_map step_of (drop (length old) new) ≡ steps_of added
new_steps old new added is = ap (λ l. filter_map step_of (drop (length old) l)) is ∙ ap (filter_map step_of) (drop-append_seam old added)

abbrev pub with_steps : Reply → ℕ → Reply
with_steps r n = record r { steps = n }

-- The run with a call's entry, and the packet that the call makes enter: it is answered.
record IsReplied (p : Played) (lane : ℕ) (call : LaneCall) (reply : Reply) (q : Played) : Type 0 where
  played : q ≡ play_answer p lane call
  packet : reply.packet ≡ (next_answer p lane call).packet

-- there was no memory for it
record IsDeclined (p : Played) (lane : ℕ) (reply : Reply) (q : Played) : Type 0 where
  played : q ≡ play_refusal p lane
  packet : reply.packet ≡ None

answered_plays : (lane : ℕ) (call : LaneCall) (reply : Reply) (old new : State) (k : ℕ) (steps : List Step) → IsSession old → HasRoom old → lane < 32
    → IsHandled lane (called call) reply old new → k ≡ next_call lane (played_of old) → steps ≡ filter_map step_of (drop (length old.events) new.events)
    → IsAnswered old.core.control old.core.steps old.events (answer_to old.core.control (figures old.totals) lane (raised (slice_index old.core.calls lane) 1) (called call)) reply new.core.control new.events
    → IsReplied (played_of old) lane call reply (played_of (with_entry new (entry_of lane k steps reply)))
unfolding answer
answered_plays lane call reply old new k steps session room below h k_is steps_are a =
    let next : ℕ = next_call lane (played_of old) in
    let f : ℕ → Answer = λ n. answer_to old.core.control (figures old.totals) lane n (called call) in
    let is : f (raised (slice_index old.core.calls lane) 1) ≡ f next = ap f (next_is old lane session room below) in
    let sound = answer_to_sound (called call) old.core.control (figures old.totals) lane next in
    let all : length (steps_of (f next).events) ≡ length (f next).events = sound.all_steps in
    let sum : raised old.core.steps (length (f next).events) ≡ old.core.steps + length (steps_of (f next).events) =
    raised_is old.core.steps (length (f next).events) (omega (arith, room.steps, all, sound.few_steps)) ∙ ap (λ n. old.core.steps + n) (sym all) in
    let reply_is : reply ≡ reply_of old.core.steps (f next) =
    a.reply_is ∙ ap (λ x. replied old.core.steps x) is ∙ ap (with_steps (replied old.core.steps (f next))) sum in
    record {
      played = same_run _ _ _ _ _ _ _ _ _ _
          (a.control ∙ ap (λ x. applied old.core.control x.events) is)
          (h.steps ∙ ap (λ r. r.steps) reply_is)
          (ap (λ j. j ++ entry_of lane k steps reply ∷ []) h.journal
          ∙ ap (λ e. old.journal ++ e ∷ []) (same_entry lane k next steps (steps_of (f next).events) reply (reply_of old.core.steps (f next)) k_is
          (steps_are ∙ new_steps old.events new.events _ (a.handed ∙ ap (λ x. old.events ++ x.events) is)) reply_is))
          h.records (ap figures h.totals);
      packet = ap (λ (r : Reply). r.packet) reply_is;
    }

refused_plays : (lane : ℕ) (call : LaneCall) (reply : Reply) (old new : State) (k : ℕ) (steps : List Step)
    → IsHandled lane (called call) reply old new → k ≡ next_call lane (played_of old) → steps ≡ filter_map step_of (drop (length old.events) new.events)
    → IsRefused old.core.control old.core.steps old.events reply new.core.control new.events
    → IsDeclined (played_of old) lane reply (played_of (with_entry new (entry_of lane k steps reply)))
refused_plays lane call reply old new k steps h k_is steps_are r = record {
  played = same_run _ _ _ _ _ _ _ _ _ _
      r.control
      (h.steps ∙ ap (λ x. x.steps) r.reply_is)
      (ap (λ j. j ++ entry_of lane k steps reply ∷ []) h.journal
      ∙ ap (λ e. old.journal ++ e ∷ []) (same_entry lane k (next_call lane (played_of old)) steps [] reply (without_memory old.core.steps) k_is
      (steps_are ∙ new_steps old.events new.events [] (r.handed ∙ sym (append-nil old.events))) r.reply_is))
      h.records (ap figures h.totals);
  packet = ap (λ (x : Reply). x.packet) r.reply_is;
}

plays_by : (b : Bool) (lane : ℕ) (call : LaneCall) (reply : Reply) (old new : State) (k : ℕ) (steps : List Step) → IsSession old → HasRoom old → lane < 32
    → IsHandled lane (called call) reply old new → k ≡ next_call lane (played_of old) → steps ≡ filter_map step_of (drop (length old.events) new.events)
    → HandledBy b old.core.control old.core.steps old.events (answer_to old.core.control (figures old.totals) lane (raised (slice_index old.core.calls lane) 1) (called call)) reply new.core.control new.events
    → IsReplied (played_of old) lane call reply (played_of (with_entry new (entry_of lane k steps reply))) ⊎ IsDeclined (played_of old) lane reply (played_of (with_entry new (entry_of lane k steps reply)))
plays_by true lane call reply old new k steps session room below h k_is steps_are r = inr (refused_plays lane call reply old new k steps h k_is steps_are r)
plays_by false lane call reply old new k steps session room below h k_is steps_are a = inl (answered_plays lane call reply old new k steps session room below h k_is steps_are a)

-- the number of calls that stands for the lane now
pub number_is : (lane : ℕ) (old new : State) (call : calls.Call) (reply : Reply) → IsSession old → HasRoom old → lane < 32 → IsHandled lane call reply old new
    → slice_index new.core.calls lane ≡ next_call lane (played_of old)
number_is lane old new call reply session room below h =
    ap (λ c. slice_index c lane) h.calls ∙ get_or-set_same old.core.calls lane _ 0 (omega (arith, session.wide)) ∙ next_is old lane session room below

-- the run with the call's entry
call_plays : (lane : ℕ) (call : LaneCall) (reply : Reply) (old new : State) (k : ℕ) (steps : List Step) → IsSession old → HasRoom old → lane < 32
    → IsHandled lane (called call) reply old new → k ≡ slice_index new.core.calls lane → steps ≡ filter_map step_of (drop (length old.events) new.events)
    → IsReplied (played_of old) lane call reply (played_of (with_entry new (entry_of lane k steps reply))) ⊎ IsDeclined (played_of old) lane reply (played_of (with_entry new (entry_of lane k steps reply)))
call_plays lane call reply old new k steps session room below h k_is steps_are =
    plays_by (is_unavailable reply.code) lane call reply old new k steps session room below h
    (k_is ∙ number_is lane old new (called call) reply session room below h) steps_are h.handled

one_more : (b : Bool) → 0 + cond b 1 0 ≡ cond b 1 0
one_more true = refl
one_more false = refl

-- one more item is counted where its test holds
count_push : (test : Entry → Bool) (list : List Entry) (entry : Entry) → count_by test (list ++ entry ∷ []) ≡ count_by test list + cond (test entry) 1 0
count_push test list entry = sum_by-append (λ e. cond (test e) 1 0) list (entry ∷ []) ∙ ap (λ n. sum_by (λ e. cond (test e) 1 0) list + n) (one_more (test entry))

place_counted : (b : Bool) (lane place : ℕ) (old : State) (calls : List ℕ) (journal : List Entry) (entry : Entry) → (lane == place) ≡ b → lane < 32 → length old.core.calls ≡ 32
    → calls ≡ set old.core.calls lane (slice_index old.core.calls lane + 1) → entry.lane ≡ lane
    → slice_index old.core.calls place ≡ count_by (λ e. e.lane == place) journal
    → slice_index calls place ≡ count_by (λ e. e.lane == place) journal + cond (lane == place) 1 0
place_counted true lane place old calls journal entry is below wide calls_are of_lane before =
    let same : lane ≡ place = eqb-true lane place is in
    ap (λ c. slice_index c place) calls_are
    ∙ ap (λ i. slice_index (set old.core.calls i (slice_index old.core.calls i + 1)) place) same
    ∙ get_or-set_same old.core.calls place _ 0 (omega (arith, wide, same))
    ∙ ap (λ n. n + 1) before
    ∙ ap (λ b. count_by (λ e. e.lane == place) journal + cond b 1 0) (sym is)
place_counted false lane place old calls journal entry is below wide calls_are of_lane before =
    ap (λ c. slice_index c place) calls_are
    ∙ get_or-set_other old.core.calls lane place _ 0 (λ e. eqb-false lane place is (sym e))
    ∙ before
    ∙ sym (add-zero _)
    ∙ ap (λ b. count_by (λ e. e.lane == place) journal + cond b 1 0) (sym is)

-- with the call's entry in the journal the state is that of a session again
pub call_session : (lane : ℕ) (call : calls.Call) (reply : Reply) (old new : State) (entry : Entry) → IsSession old → HasRoom old → lane < 32 → IsHandled lane call reply old new → entry.lane ≡ lane
    → IsSession (with_entry new entry)
call_session lane call reply old new entry session room below h of_lane = record {
  agrees = h.agrees;
  wide = ap length h.calls ∙ length-set old.core.calls lane _ ∙ session.wide;
  counted = λ place within.
      place_counted (lane == place) lane place old new.core.calls old.journal entry refl below session.wide (h.calls ∙ ap (set old.core.calls lane) (next_is old lane session room below ∙ sym (ap (λ n. n + 1) (session.counted lane below)))) of_lane (session.counted place within)
      ∙ ap (λ l. count_by (λ e. e.lane == place) old.journal + cond (l == place) 1 0) (sym of_lane)
      ∙ sym (count_push (λ e. e.lane == place) old.journal entry)
      ∙ ap (λ j. count_by (λ e. e.lane == place) (j ++ entry ∷ [])) (sym h.journal);
  each_counted = ap (λ (t : TotalsState). t.packets) h.totals ∙ session.each_counted ∙ ap length (sym h.records);
}

-- ---- Packets

abbrev pub with_records : State → List Record → TotalsState → State
with_records s records totals = record s { records = records; totals = totals }

-- a packet's record was added, and it was counted
pub carried_is : (who : Who) (port : ℕ) (packet : List ℕ) (s t : State) (outcome : Record) (records : List Record) (totals : TotalsState) → t ≡ s
    → outcome ≡ carried who (next_packet who (played_of s)) s.core.steps s.core.control port packet → records ≡ t.records ++ outcome ∷ []
    → figures totals ≡ figures_after (figures t.totals) outcome.hits (length packet) → totals.packets ≡ t.totals.packets + 1
    → IsCarried who port packet s (with_records t records totals)
carried_is who port packet s t outcome records totals same outcome_is records_are figures_are counted_is = record {
  core = ap (λ (x : State). x.core) same;
  start = ap (λ (x : State). x.start) same;
  events = ap (λ (x : State). x.events) same;
  journal = ap (λ (x : State). x.journal) same;
  records = records_are ∙ ap (λ (x : State). x.records ++ outcome ∷ []) same ∙ ap (λ o. s.records ++ o ∷ []) outcome_is;
  figures_are = figures_are ∙ ap (λ (x : State). figures_after (figures x.totals) outcome.hits (length packet)) same ∙ ap (λ (o : Record). figures_after (figures s.totals) o.hits (length packet)) outcome_is;
  counted = counted_is ∙ ap (λ (x : State). x.totals.packets + 1) same;
}

-- the run with a packet more
carried_played : (who : Who) (port : ℕ) (packet : List ℕ) (old new : State) → IsCarried who port packet old new → played_of new ≡ play_packet (played_of old) who port packet
carried_played who port packet old new h =
    same_run _ _ _ _ _ _ _ _ _ _ (ap (λ (k : Core). k.control) h.core) (ap (λ (k : Core). k.steps) h.core) h.journal h.records h.figures_are

-- the state is that of a session again
carried_session : (who : Who) (port : ℕ) (packet : List ℕ) (old new : State) → IsSession old → IsCarried who port packet old new → IsSession new
carried_session who port packet old new session h = record {
  agrees = ap (λ events. applied (opened new.start) events) h.events ∙ ap (λ start. applied (opened start) old.events) h.start ∙ session.agrees ∙ sym (ap (λ (k : Core). k.control) h.core);
  wide = ap (λ (k : Core). length k.calls) h.core ∙ session.wide;
  counted = λ place within.
      ap (λ (k : Core). slice_index k.calls place) h.core ∙ session.counted place within ∙ ap (count_by (λ (entry : Entry). entry.lane == place)) (sym h.journal);
  each_counted =
      let added = length-append old.records (carried who (next_packet who (played_of old)) old.core.steps old.core.control port packet ∷ []) in
      omega (arith, h.counted, session.each_counted, ap length h.records, added);
}

-- a packet of the tape is one more turn
pub packet_plays : {X E : Type 0} (r : Result X E) (lane port : ℕ) (packet : List ℕ) (old new : State) → OnOk r (IsCarried (Worker lane) port packet old new) → OnOk r (Plays (played_of old) (Packet lane port packet) (played_of new))
unfolding play
packet_plays (Ok x) lane port packet old new h = carried_played (Worker lane) port packet old new h
packet_plays (Err e) lane port packet old new h = tt

pub packet_session : {X E : Type 0} (r : Result X E) (lane port : ℕ) (packet : List ℕ) (old new : State) → IsSession old → OnOk r (IsCarried (Worker lane) port packet old new) → OnOk r (IsSession new)
packet_session (Ok x) lane port packet old new session h = carried_session (Worker lane) port packet old new session h
packet_session (Err e) lane port packet old new session h = tt

pub room_for : (s : State) → IsSession s → HasRoom s → TakesPacket s
room_for s session room = record { room = room.packets; counted = session.each_counted }

-- ---- Calls with the packets that they make enter

out_played : (lane : ℕ) (o : Option (List ℕ)) (old new : State) → IsOut lane o old new → played_of new ≡ play_out (played_of old) lane o
out_played lane None old new h = ap played_of h
out_played lane (Some packet) old new h = carried_played (Controller lane) old.core.control.cpu packet old new h

pub out_session : (lane : ℕ) (o : Option (List ℕ)) (old new : State) → IsSession old → IsOut lane o old new → IsSession new
out_session lane None old new session h = subst IsSession (sym h) session
out_session lane (Some packet) old new session h = carried_session (Controller lane) old.core.control.cpu packet old new session h

-- the entry of a lane's latest call
abbrev pub entry_at : ℕ → ℕ → Reply → State → Entry
entry_at lane before reply s = entry_of lane (slice_index s.core.calls lane) (filter_map step_of (drop before s.events)) reply

-- the packet ran before the entry was added, and might have run behind it
pub out_entered : (lane before : ℕ) (reply : Reply) (o : Option (List ℕ)) (old mid : State) → IsOut lane o old mid → IsOut lane o (with_entry old (entry_at lane before reply old)) (with_entry mid (entry_at lane before reply mid))
out_entered lane before reply None old mid h = ap (λ (s : State). with_entry s (entry_at lane before reply s)) h
out_entered lane before reply (Some packet) old mid h = record {
  core = h.core;
  start = h.start;
  events = h.events;
  journal = ap (λ j. j ++ entry_at lane before reply mid ∷ []) h.journal
      ∙ ap (λ (k : Core). old.journal ++ entry_of lane (slice_index k.calls lane) (filter_map step_of (drop before mid.events)) reply ∷ []) h.core
      ∙ ap (λ events. old.journal ++ entry_of lane (slice_index old.core.calls lane) (filter_map step_of (drop before events)) reply ∷ []) h.events;
  records = h.records;
  figures_are = h.figures_are;
  counted = h.counted;
}

replied_plays : (lane : ℕ) (call : LaneCall) (reply : Reply) (p : Played) (s new : State) → IsOut lane reply.packet s new → IsReplied p lane call reply (played_of s) ⊎ IsDeclined p lane reply (played_of s) → PlaysCall p lane call (played_of new)
unfolding play
replied_plays lane call reply p s new out (inl h) =
    inl (out_played lane reply.packet s new out ∙ ap (λ q. play_out q lane reply.packet) h.played ∙ ap (play_out (play_answer p lane call) lane) h.packet)
replied_plays lane call reply p s new out (inr h) = inr (out_played lane reply.packet s new out ∙ ap (λ q. play_out q lane reply.packet) h.played ∙ ap (play_out (play_refusal p lane) lane) h.packet)

-- a call that was handled, with its packet and its entry, is one more turn of a run that goes on
pub call_turn : (lane : ℕ) (call : LaneCall) (reply : Reply) (old mid new : State) (before : ℕ) → IsSession old → HasRoom old → lane < 32 → IsHandled lane (called call) reply old mid → before ≡ length old.events
    → IsCompleted lane before reply mid new → PlaysCall (played_of old) lane call (played_of new) × IsSession new
call_turn lane call reply old mid new before session room below h before_is done =
    let k = slice_index mid.core.calls lane in
    let steps = filter_map step_of (drop before mid.events) in
    let entered : State = with_entry mid (entry_of lane k steps reply) in
    let out = out_entered lane before reply reply.packet mid done.mid done.out in
    let plays = call_plays lane call reply old mid k steps session room below h refl (ap (λ n. filter_map step_of (drop n mid.events)) before_is) in
    let again = call_session lane (called call) reply old mid (entry_of lane k steps reply) session room below h refl in
    let P : State → Type 0 = λ s. PlaysCall (played_of old) lane call (played_of s) × IsSession s in
    subst P (sym done.entered) (
      replied_plays lane call reply (played_of old) entered (with_entry done.mid (entry_at lane before reply done.mid)) out plays,
      out_session lane reply.packet entered (with_entry done.mid (entry_at lane before reply done.mid)) again out,
    )

-- the same where there may be no memory for the entry
pub turn_plays : {X E : Type 0} (r : Result X E) (lane : ℕ) (call : LaneCall) (reply : Reply) (old mid new : State) (before : ℕ) → IsSession old → HasRoom old → lane < 32 → IsHandled lane (called call) reply old mid
    → before ≡ length old.events → OnOk r (IsCompleted lane before reply mid new) → OnOk r (PlaysCall (played_of old) lane call (played_of new))
turn_plays (Ok x) lane call reply old mid new before session room below h before_is done = (call_turn lane call reply old mid new before session room below h before_is done).0
turn_plays (Err e) lane call reply old mid new before session room below h before_is done = tt

pub turn_session : {X E : Type 0} (r : Result X E) (lane : ℕ) (call : LaneCall) (reply : Reply) (old mid new : State) (before : ℕ) → IsSession old → HasRoom old → lane < 32 → IsHandled lane (called call) reply old mid
    → before ≡ length old.events → OnOk r (IsCompleted lane before reply mid new) → OnOk r (IsSession new)
turn_session (Ok x) lane call reply old mid new before session room below h before_is done = (call_turn lane call reply old mid new before session room below h before_is done).1
turn_session (Err e) lane call reply old mid new before session room below h before_is done = tt

pub completed : {X E : Type 0} (r : Result X E) (lane before : ℕ) (reply : Reply) (old mid new : State) → IsOut lane reply.packet old mid → OnOk r (IsEntered lane before reply mid new) → OnOk r (IsCompleted lane before reply old new)
completed (Ok x) lane before reply old mid new out entered = record { mid = mid; out = out; entered = entered }
completed (Err e) lane before reply old mid new out entered = tt

short_by : (b : Bool) (lane : ℕ) (call : calls.Call) (reply : Reply) (old new : State) (k : ℕ)
    → HandledBy b old.core.control old.core.steps old.events (answer_to old.core.control (figures old.totals) lane k call) reply new.core.control new.events
    → IfSome reply.packet (λ packet. length packet ≤ 9216)
short_by true lane call reply old new k h = let P : Reply → Type 0 = λ r. IfSome r.packet (λ packet. length packet ≤ 9216) in subst P (sym h.reply_is) tt
short_by false lane call reply old new k h =
    let P : Reply → Type 0 = λ r. IfSome r.packet (λ packet. length packet ≤ 9216) in
    subst P (sym h.reply_is) (answer_to_sound call old.core.control (figures old.totals) lane k).short_packet

-- a packet that a call makes enter is short
pub short_packet : (lane : ℕ) (call : calls.Call) (reply : Reply) (old new : State) → IsHandled lane call reply old new → IfSome reply.packet (λ packet. length packet ≤ 9216)
short_packet lane call reply old new h = short_by (is_unavailable reply.code) lane call reply old new (raised (slice_index old.core.calls lane) 1) h.handled

-- there is room for it
pub takes_packet : (lane : ℕ) (call : calls.Call) (reply : Reply) (old new : State) → IsSession old → HasRoom old → IsHandled lane call reply old new → TakesPacket new
takes_packet lane call reply old new session room h = record {
  room = omega (arith, room.packets, ap length h.records);
  counted = ap (λ (t : TotalsState). t.packets) h.totals ∙ session.each_counted ∙ ap length (sym h.records);
}
