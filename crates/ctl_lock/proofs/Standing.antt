-- A journal with one call more.
use Rattle.std.proofs.Common.{◌≡◌, ℕ, zero, suc, ◌+◌, ◌-◌, ◌^◌, ◌<◌, ◌≤◌, ◌==◌, Bool, true, false, cond, List, [], ◌∷◌, ◌++◌, length, drop, slice_index, set, IfSome, refl, ap, ◌∙◌, sym, subst, arith, add-zero, append_assoc, length-append, length-set}
use Rattle.std.proofs.lemmas.Bool.{eqb-true, eqb-false}
use Rattle.std.proofs.lemmas.List.{append-nil, get_or-set_same, get_or-set_other, length-map, length-replicate, map-append}
use Rattle.std.proofs.lemmas.List.Elements.{filter_map-append}
use Rattle.std.proofs.lemmas.List.Sums.{sum_by-append, count_by-le-length, fold-append}
use Rattle.std.proofs.Math.Seq.{drop-append_seam}
use Rattle.std.specs.Prelude.{count_by, replicate, sum_by}
use Rattle.ctl_core.specs.Core.{Core, HandledBy, raised, replied, without_memory}
use Rattle.ctl_lock.specs.Calls.{made_of, journal_of}
use Rattle.ctl_lock.specs.Locked.{IsStanding, IsHandled, IsEntry, entries_of}
use Rattle.ctl_lock.specs.declared.signed.Signed.{Signed}
use Rattle.p4_types.specs.declared.calls.Call.{Call}
use Rattle.p4_types.specs.declared.calls.Reply.{Reply}
use Rattle.p4_types.specs.declared.events.Start.{Start}
use Rattle.p4_types.specs.declared.journal.Entry.{Entry}
use Rattle.p4_types.specs.declared.journal.Step.{Step}
use Rattle.plane_spec.specs.Config.{Event}
use Rattle.plane_spec.specs.Planes.{ControlState, opened, apply, applied}
use Rattle.pub_snap.specs.Snapshots.{Feed, all_of}
use Rattle.switch_spec.proofs.Answers.{answer_to_sound}
use Rattle.switch_spec.specs.Answer.{Answer, called, answer, answer_to}
use Rattle.switch_spec.specs.Counts.{Figures}
use Rattle.switch_spec.specs.History.{Made, History, Numbered, answered, expected, is_refused_for_memory, is_unavailable, journal_events, own_events, refused_for_memory, reply_of, step_of, steps_of}
use Rattle.switch_spec.specs.declared.calls.LaneCall.{LaneCall}

-- how many steps the calls of a journal made
abbrev pub steps_made : List Made → ℕ
steps_made journal = sum_by (λ made. length made.entry.steps) journal

-- the events of a journal go on by those of its last call
pub events_more : (c : ControlState) (journal : List Made) (m : Made) → journal_events c (journal ++ m ∷ []) ≡ journal_events c journal ++ own_events (applied c (journal_events c journal)) m
events_more c [] m = append-nil (own_events c m)
events_more c (j ∷ journal) m =
    let own = own_events c j in
    let d = applied c own in
    ap (λ (l : List Event). own ++ l) (events_more d journal m)
    ∙ sym (append_assoc own (journal_events d journal) (own_events (applied d (journal_events d journal)) m))
    ∙ ap (λ (x : ControlState). (own ++ journal_events d journal) ++ own_events x m) (sym (fold-append apply c own (journal_events d journal)))

-- a history goes on by a call that has its answer
history_more : (c : ControlState) (n : ℕ) (journal : List Made) (m : Made) → History c n journal → m.entry ≡ expected (applied c (journal_events c journal)) (n + steps_made journal) m
    → History c n (journal ++ m ∷ [])
history_more c n [] m h is = (is ∙ ap (λ (k : ℕ). expected c k m) (add-zero n), tt)
history_more c n (j ∷ journal) m h is =
    let own = own_events c j in
    let d = applied c own in
    let more : ℕ = length j.entry.steps in
    let split : steps_made (j ∷ journal) ≡ 0 + more + steps_made journal = sum_by-append (λ (x : Made). length x.entry.steps) (j ∷ []) journal in
    let count : n + steps_made (j ∷ journal) ≡ n + more + steps_made journal = omega (arith, split) in (
      h.0,
      history_more d (n + more) journal m h.1 (
          is
          ∙ ap (λ (x : ControlState). expected x (n + steps_made (j ∷ journal)) m) (fold-append apply c own (journal_events d journal))
          ∙ ap (λ (k : ℕ). expected (applied d (journal_events d journal)) k m) count
          ),
    )

-- the calls of lanes stay numbered
numbered_more : (before entries : List Entry) (e : Entry) → Numbered before entries → e.call ≡ count_by (λ x. x.lane == e.lane) (before ++ entries) + 1 → Numbered before (entries ++ e ∷ [])
numbered_more before [] e h is = (is ∙ ap (λ (l : List Entry). count_by (λ x. x.lane == e.lane) l + 1) (append-nil before), tt)
numbered_more before (x ∷ entries) e h is =
    (h.0, numbered_more (before ++ x ∷ []) entries e h.1 (is ∙ ap (λ (l : List Entry). count_by (λ y. y.lane == e.lane) l + 1) (sym (append_assoc before (x ∷ []) entries))))

one_more : (b : Bool) → 0 + cond b 1 0 ≡ cond b 1 0
one_more true = refl
one_more false = refl

-- one more entry is counted where its test holds
count_push : (test : Entry → Bool) (list : List Entry) (entry : Entry) → count_by test (list ++ entry ∷ []) ≡ count_by test list + cond (test entry) 1 0
count_push test list entry = sum_by-append (λ e. cond (test e) 1 0) list (entry ∷ []) ∙ ap (λ (n : ℕ). sum_by (λ e. cond (test e) 1 0) list + n) (one_more (test entry))

-- a count that does not reach the end is a sum
raised_is : (count more : ℕ) → count + more ≤ 2 ^ 64 - 1 → raised count more ≡ count + more
raised_is count more h = omega (arith, h)

-- the count of one lane rises by one
place_counted : (b : Bool) (lane place : ℕ) (old new : List ℕ) (count : ℕ) → (lane == place) ≡ b → lane < 32 → length old ≡ 32 → new ≡ set old lane (slice_index old lane + 1)
    → slice_index old place ≡ count → slice_index new place ≡ count + cond (lane == place) 1 0
place_counted true lane place old new count is below wide new_is before =
    let same : lane ≡ place = eqb-true lane place is in
    ap (λ (c : List ℕ). slice_index c place) new_is
    ∙ ap (λ (i : ℕ). slice_index (set old i (slice_index old i + 1)) place) same
    ∙ get_or-set_same old place _ 0 (omega (arith, wide, same))
    ∙ ap (λ (n : ℕ). n + 1) before
    ∙ ap (λ (b : Bool). count + cond b 1 0) (sym is)
place_counted false lane place old new count is below wide new_is before =
    ap (λ (c : List ℕ). slice_index c place) new_is
    ∙ get_or-set_other old lane place _ 0 (λ e. eqb-false lane place is (sym e))
    ∙ before
    ∙ sym (add-zero _)
    ∙ ap (λ (b : Bool). count + cond b 1 0) (sym is)

abbrev pub entry_by : ℕ → ℕ → List Step → Reply → Entry
entry_by lane k steps reply = record { lane = lane; call = k; steps = steps; reply = reply }

-- an entry by its parts
entry_is : (e : Entry) (lane k : ℕ) (steps : List Step) (reply : Reply) → e.lane ≡ lane → e.call ≡ k → e.steps ≡ steps → e.reply ≡ reply → e ≡ entry_by lane k steps reply
entry_is e lane k steps reply a b c d =
    ap (λ (x : ℕ). entry_by x e.call e.steps e.reply) a
    ∙ ap (λ (x : ℕ). entry_by lane x e.steps e.reply) b
    ∙ ap (λ (x : List Step). entry_by lane k x e.reply) c
    ∙ ap (λ (x : Reply). entry_by lane k steps x) d

abbrev with_steps : Reply → ℕ → Reply
with_steps r n = record r { steps = n }

-- What a call makes of the journal that it follows.
record IsMore (c new : ControlState) (n steps k : ℕ) (given now : List Event) (m : Made) : Type 0 where
  entry_is : m.entry ≡ expected c n m
  call_is : m.entry.call ≡ k
  events : now ≡ given ++ own_events c m
  control : new ≡ applied c (own_events c m)
  number : steps ≡ n + length m.entry.steps
  each_step : length (steps_of (own_events c m)) ≡ length (own_events c m)
  as_many : length m.entry.steps ≡ length (own_events c m)

refused_is : (c new : ControlState) (n k : ℕ) (given now : List Event) (reply : Reply) (lane : ℕ) (m : Made) → is_unavailable reply.code ≡ true
    → reply ≡ without_memory n → new ≡ c → now ≡ given → m.entry ≡ entry_by lane k (steps_of (drop (length given) now)) reply → IsMore c new n reply.steps k given now m
refused_is c new n k given now reply lane m none reply_is new_is now_is is =
    let refused : is_refused_for_memory m ≡ true = ap (λ (e : Entry). is_unavailable e.reply.code) is ∙ none in
    let own : own_events c m ≡ [] = ap (λ (b : Bool). cond b [] (answer c m.figures m.entry.lane m.entry.call m.call).events) refused in
    let nothing : steps_of (drop (length given) now) ≡ [] =
    ap (λ (l : List Event). steps_of (drop (length given) l)) (now_is ∙ sym (append-nil given)) ∙ ap steps_of (drop-append_seam given []) in
    let whole : m.entry ≡ refused_for_memory n lane k = is ∙ ap (λ (s : List Step). entry_by lane k s reply) nothing ∙ ap (λ (r : Reply). entry_by lane k [] r) reply_is in
    let steps_are : m.entry.steps ≡ [] = ap (λ (e : Entry). e.steps) whole in
    record {
      entry_is =
          whole
          ∙ ap (λ (l : ℕ). refused_for_memory n l k) (sym (ap (λ (e : Entry). e.lane) whole))
          ∙ ap (λ (x : ℕ). refused_for_memory n m.entry.lane x) (sym (ap (λ (e : Entry). e.call) whole))
          ∙ sym (ap (λ (b : Bool). cond b (refused_for_memory n m.entry.lane m.entry.call) (answered c m.figures n m.entry.lane m.entry.call m.call)) refused);
      call_is = ap (λ (e : Entry). e.call) is;
      events = now_is ∙ sym (append-nil given) ∙ ap (λ (l : List Event). given ++ l) (sym own);
      control = new_is ∙ ap (applied c) (sym own);
      number = ap (λ (r : Reply). r.steps) reply_is ∙ sym (add-zero n) ∙ ap (λ (s : List Step). n + length s) (sym steps_are);
      each_step = let P : List Event → Type 0 = λ l. length (steps_of l) ≡ length l in subst P (sym own) refl;
      as_many = ap length steps_are ∙ ap length (sym own);
    }

answered_is : (c new : ControlState) (g : Figures) (n k : ℕ) (given now : List Event) (call : LaneCall) (reply : Reply) (lane : ℕ) (m : Made) → is_unavailable reply.code ≡ false
    → m.call ≡ call → m.figures ≡ g → n ≡ length given → length now ≤ 2 ^ 64 - 1
    → reply ≡ replied n (answer c g lane k call) → new ≡ applied c (answer c g lane k call).events → now ≡ given ++ (answer c g lane k call).events
    → m.entry ≡ entry_by lane k (steps_of (drop (length given) now)) reply → IsMore c new n reply.steps k given now m
unfolding answer
answered_is c new g n k given now call reply lane m there call_is figures_are as_many few reply_is new_is now_is is =
    let a : Answer = answer c g lane k call in
    let sound = answer_to_sound (called call) c g lane k in
    let refused : is_refused_for_memory m ≡ false = ap (λ (e : Entry). is_unavailable e.reply.code) is ∙ there in
    let lane_is : m.entry.lane ≡ lane = ap (λ (e : Entry). e.lane) is in
    let number_is : m.entry.call ≡ k = ap (λ (e : Entry). e.call) is in
    let same : answer c m.figures m.entry.lane m.entry.call m.call ≡ a =
    ap (λ (x : Figures). answer c x m.entry.lane m.entry.call m.call) figures_are
    ∙ ap (λ (x : ℕ). answer c g x m.entry.call m.call) lane_is
    ∙ ap (λ (x : ℕ). answer c g lane x m.call) number_is
    ∙ ap (λ (x : LaneCall). answer c g lane k x) call_is in
    let own : own_events c m ≡ a.events =
    ap (λ (b : Bool). cond b [] (answer c m.figures m.entry.lane m.entry.call m.call).events) refused ∙ ap (λ (x : Answer). x.events) same in
    let all : length (steps_of a.events) ≡ length a.events = sound.all_steps in
    let size : length now ≡ length given + length a.events = ap length now_is ∙ length-append given a.events in
    let sum : raised n (length a.events) ≡ n + length (steps_of a.events) = raised_is n (length a.events) (omega (arith, as_many, size, few)) ∙ ap (λ (x : ℕ). n + x) (sym all) in
    let reply_by : reply ≡ reply_of n a = reply_is ∙ ap (with_steps (replied n a)) sum in
    let steps_are : steps_of (drop (length given) now) ≡ steps_of a.events =
    ap (λ (l : List Event). steps_of (drop (length given) l)) now_is ∙ ap steps_of (drop-append_seam given a.events) in
    let whole : m.entry ≡ entry_by lane k (steps_of a.events) (reply_of n a) =
    is ∙ ap (λ (s : List Step). entry_by lane k s reply) steps_are ∙ ap (λ (r : Reply). entry_by lane k (steps_of a.events) r) reply_by in
    let steps_of_m : m.entry.steps ≡ steps_of a.events = ap (λ (e : Entry). e.steps) whole in
    record {
      entry_is =
          whole
          ∙ ap (λ (x : Answer). entry_by lane k (steps_of x.events) (reply_of n x)) (sym same)
          ∙ ap (λ (l : ℕ). entry_by l k (steps_of (answer c m.figures m.entry.lane m.entry.call m.call).events) (reply_of n (answer c m.figures m.entry.lane m.entry.call m.call))) (sym lane_is)
          ∙ ap (λ (x : ℕ). entry_by m.entry.lane x (steps_of (answer c m.figures m.entry.lane m.entry.call m.call).events) (reply_of n (answer c m.figures m.entry.lane m.entry.call m.call))) (sym number_is)
          ∙ sym (ap (λ (b : Bool). cond b (refused_for_memory n m.entry.lane m.entry.call) (answered c m.figures n m.entry.lane m.entry.call m.call)) refused);
      call_is = number_is;
      events = now_is ∙ ap (λ (l : List Event). given ++ l) (sym own);
      control = new_is ∙ ap (applied c) (sym own);
      number = ap (λ (r : Reply). r.steps) reply_by ∙ ap (λ (s : List Step). n + length s) (sym steps_of_m);
      each_step = let P : List Event → Type 0 = λ l. length (steps_of l) ≡ length l in subst P (sym own) all;
      as_many = ap length steps_of_m ∙ all ∙ ap length (sym own);
    }

-- by whether there was memory
more_by : (b : Bool) (c new : ControlState) (g : Figures) (n k : ℕ) (given now : List Event) (call : LaneCall) (reply : Reply) (lane : ℕ) (m : Made) → is_unavailable reply.code ≡ b
    → m.call ≡ call → m.figures ≡ g → n ≡ length given → length now ≤ 2 ^ 64 - 1 → HandledBy b c n given (answer c g lane k call) reply new now
    → m.entry ≡ entry_by lane k (steps_of (drop (length given) now)) reply → IsMore c new n reply.steps k given now m
more_by true c new g n k given now call reply lane m b call_is figures_are as_many few h is = refused_is c new n k given now reply lane m b h.reply_is h.control h.handed is
more_by false c new g n k given now call reply lane m b call_is figures_are as_many few h is =
    answered_is c new g n k given now call reply lane m b call_is figures_are as_many few h.reply_is h.control h.handed is

-- the journal with one call more stands
standing_by : (start : Start) (given now : List Event) (old new : Core) (journal : List Made) (lane k : ℕ) (m : Made) → IsStanding start given old journal → lane < 32 → m.entry.lane ≡ lane
    → k ≡ slice_index old.calls lane + 1 → new.calls ≡ set old.calls lane k → IsMore old.control new.control old.steps new.steps k given now m
    → IsStanding start now new (journal ++ m ∷ [])
standing_by start given now old new journal lane k m h below lane_is k_is calls_are more =
    let c = opened start in
    let at : applied c (journal_events c journal) ≡ old.control = ap (applied c) (sym h.events_are) ∙ sym h.control in
    let own = own_events old.control m in
    let from_zero : steps_made journal ≡ 0 + steps_made journal = omega arith in
    let size : length now ≡ length given + length own = ap length more.events ∙ length-append given own in
    let entries : entries_of (journal ++ m ∷ []) ≡ entries_of journal ++ m.entry ∷ [] = map-append (λ (x : Made). x.entry) journal (m ∷ []) in
    record {
      events_are =
          more.events
          ∙ ap (λ (l : List Event). l ++ own) h.events_are
          ∙ ap (λ (x : ControlState). journal_events c journal ++ own_events x m) (sym at)
          ∙ sym (events_more c journal m);
      each_step =
          ap (λ (l : List Event). length (steps_of l)) more.events
          ∙ ap length (filter_map-append step_of given own)
          ∙ length-append (steps_of given) (steps_of own)
          ∙ ap (λ (x : ℕ). x + length (steps_of own)) h.each_step
          ∙ ap (λ (x : ℕ). length given + x) more.each_step
          ∙ sym size;
      control = more.control ∙ ap (λ (x : ControlState). applied x own) h.control ∙ sym (fold-append apply c given own) ∙ ap (applied c) (sym more.events);
      steps = more.number ∙ ap (λ (x : ℕ). x + length m.entry.steps) h.steps ∙ ap (λ (x : ℕ). length given + x) more.as_many ∙ sym size;
      counted_steps =
          let zero_more : length m.entry.steps ≡ 0 + length m.entry.steps = omega arith in
          more.number
          ∙ ap (λ (x : ℕ). x + length m.entry.steps) h.counted_steps
          ∙ ap (λ (x : ℕ). steps_made journal + x) zero_more
          ∙ sym (sum_by-append (λ (x : Made). length x.entry.steps) journal (m ∷ []));
      history = history_more c 0 journal m h.history (
          more.entry_is
          ∙ ap (λ (x : ControlState). expected x old.steps m) (sym at)
          ∙ ap (λ (x : ℕ). expected (applied c (journal_events c journal)) x m) (h.counted_steps ∙ from_zero)
          );
      numbered =
          let P : List Entry → Type 0 = λ l. Numbered [] l in
          subst P (sym entries) (numbered_more [] (entries_of journal) m.entry h.numbered (
          more.call_is
          ∙ k_is
          ∙ ap (λ (x : ℕ). x + 1) (h.calls lane below)
          ∙ ap (λ (l : ℕ). count_by (λ (e : Entry). e.lane == l) (entries_of journal) + 1) (sym lane_is)
          ));
      wide = ap length calls_are ∙ length-set old.calls lane k ∙ h.wide;
      calls = λ place within.
          place_counted (lane == place) lane place old.calls new.calls (count_by (λ (e : Entry). e.lane == place) (entries_of journal)) refl below h.wide
          (calls_are ∙ ap (set old.calls lane) k_is) (h.calls place within)
          ∙ ap (λ (l : ℕ). count_by (λ (e : Entry). e.lane == place) (entries_of journal) + cond (l == place) 1 0) (sym lane_is)
          ∙ sym (count_push (λ (e : Entry). e.lane == place) (entries_of journal) m.entry)
          ∙ ap (count_by (λ (e : Entry). e.lane == place)) (sym entries);
    }

-- a call that was handled, with its entry, is one call more of the journal
pub standing_more : (start : Start) (given now : List Event) (old new : Core) (journal : List Made) (lane : ℕ) (g : Figures) (call : LaneCall) (reply : Reply) (m : Made)
    → IsStanding start given old journal → lane < 32 → length journal < 2 ^ 64 - 1 → length now ≤ 2 ^ 64 - 1 → m.call ≡ call → m.figures ≡ g
    → IsHandled lane g (called call) old given reply new now → IsEntry lane (slice_index new.calls lane) (drop (length given) now) reply m.entry
    → IsStanding start now new (journal ++ m ∷ [])
unfolding answer
standing_more start given now old new journal lane g call reply m h below short few call_is figures_are handled entered =
    let count : ℕ = slice_index old.calls lane in
    let k : ℕ = raised count 1 in
    let at_most = count_by-le-length (λ (e : Entry). e.lane == lane) (entries_of journal) in
    let as_long : length (entries_of journal) ≡ length journal = length-map journal (λ (made : Made). made.entry) in
    let k_is : k ≡ count + 1 = raised_is count 1 (omega (arith, h.calls lane below, at_most, as_long, short)) in
    let number_is : slice_index new.calls lane ≡ k = ap (λ (c : List ℕ). slice_index c lane) handled.calls ∙ get_or-set_same old.calls lane k 0 (omega (arith, h.wide, below)) in
    let whole : m.entry ≡ entry_by lane k (steps_of (drop (length given) now)) reply =
    entry_is m.entry lane k (steps_of (drop (length given) now)) reply entered.lane_is (entered.call_is ∙ number_is) entered.steps_are entered.reply_is in
    let more = more_by (is_unavailable reply.code) old.control new.control g old.steps k given now call reply lane m refl call_is figures_are h.steps few handled.handled whole in
    standing_by start given now old new journal lane k m h below entered.lane_is k_is handled.calls
    (let P : ℕ → Type 0 = λ n. IsMore old.control new.control old.steps n k given now m in subst P handled.steps more)

zeros : (n place : ℕ) → slice_index (replicate n 0) place ≡ 0
zeros zero place = refl
zeros (suc n) zero = refl
zeros (suc n) (suc place) = zeros n place

-- before the first call
pub standing_new : (start : Start) (events : List Event) (core : Core) → events ≡ [] → core.control ≡ opened start → core.steps ≡ 0 → core.calls ≡ replicate 32 0 → IsStanding start events core []
standing_new start events core none control steps calls =
    let P : List Event → Type 0 = λ l. IsStanding start l core [] in
    subst P (sym none) (record {
      events_are = refl;
      each_step = refl;
      control = control;
      steps = steps;
      counted_steps = steps;
      history = tt;
      numbered = tt;
      wide = ap length calls ∙ length-replicate {A = ℕ} 32 0;
      calls = λ lane within. ap (λ (l : List ℕ). slice_index l lane) calls ∙ zeros 32 lane;
    })

longer_by : (b : Bool) (c new : ControlState) (n : ℕ) (given now : List Event) (a : Answer) (reply : Reply) → HandledBy b c n given a reply new now → length given ≤ length now
longer_by true c new n given now a reply h = omega (arith, ap length h.handed)
longer_by false c new n given now a reply h = omega (arith, ap length h.handed, length-append given a.events)

-- the list only grows by a call
pub longer : (lane : ℕ) (g : Figures) (call : Call) (old new : Core) (given now : List Event) (reply : Reply) → IsHandled lane g call old given reply new now → length given ≤ length now
longer lane g call old new given now reply h =
    longer_by (is_unavailable reply.code) old.control new.control old.steps given now (answer_to old.control g lane (raised (slice_index old.calls lane) 1) call) reply h.handled

short_by : (b : Bool) (c new : ControlState) (n lane k : ℕ) (g : Figures) (call : Call) (given now : List Event) (reply : Reply) → HandledBy b c n given (answer_to c g lane k call) reply new now
    → IfSome reply.packet (λ packet. length packet ≤ 9216)
short_by true c new n lane k g call given now reply h = let P : Reply → Type 0 = λ r. IfSome r.packet (λ packet. length packet ≤ 9216) in subst P (sym h.reply_is) tt
short_by false c new n lane k g call given now reply h =
    let P : Reply → Type 0 = λ r. IfSome r.packet (λ packet. length packet ≤ 9216) in subst P (sym h.reply_is) (answer_to_sound call c g lane k).short_packet

-- a packet that a call makes enter is short
pub short : (lane : ℕ) (g : Figures) (call : Call) (old new : Core) (given now : List Event) (reply : Reply) → IsHandled lane g call old given reply new now → IfSome reply.packet (λ packet. length packet ≤ 9216)
short lane g call old new given now reply h = short_by (is_unavailable reply.code) old.control new.control old.steps lane (raised (slice_index old.calls lane) 1) g call given now reply h.handled

-- once all is published
pub published_all : (feed : Feed) (list : List Event) → feed.told.events ≡ list → feed.pending ≡ [] → all_of feed ≡ list
published_all feed list told none = ap (λ (l : List Event). feed.told.events ++ l) none ∙ append-nil feed.told.events ∙ told

-- the journal with one call more, as it is kept
pub journal_more : (list more : List Signed) (signed : Signed) → more ≡ list ++ signed ∷ [] → journal_of more ≡ journal_of list ++ made_of signed ∷ []
journal_more list more signed is = ap journal_of is ∙ map-append made_of list (signed ∷ [])
