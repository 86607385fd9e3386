-- A pass once it made a call.
use Rattle.std.proofs.Common.{◌≡◌, ℕ, ◌+◌, ◌≤◌, ◌⊎◌, ⊎_elim, Bool, true, false, if◌then◌else◌, Option, Some, None, IfSome, List, [], ◌∷◌, ◌++◌, length, refl, ap, sym, subst, ◌∙◌, arith, length-append, append-nil}
use Rattle.std.specs.Prelude.{is_some, sum_by}
use Rattle.std.proofs.lemmas.List.Elements.{filter-append}
use Rattle.std.proofs.lemmas.List.Sums.{sum_by-append}
use mathlib.Core.List.{IsPrefix}
use Rattle.ctl_core.specs.Core.{HandledBy, raised}
use Rattle.live_desk.proofs.Callers.{all_own, answer_by, made_by_of, no_more_events}
use Rattle.live_desk.specs.Callers.{IsCounted, events_by, is_by}
use Rattle.live_desk.specs.Laws.{OwnGoOn, RunsBehindItsCall, events_of_call}
use Rattle.counter_bank.specs.Account.{Account}
use Rattle.live_desk.specs.Locked.{AreCounted, IsMade, calls_on, figures_of}
use Rattle.live_desk.specs.Passing.{HasFollowed, HasRun, HasSeen, IsCalled, Passing}
use Rattle.packet_spec.specs.Meaning.{Verdict}
use Rattle.pub_snap.specs.Snapshots.{steps_in}
use Rattle.snap_worker.specs.Counting.{after_packet}
use Rattle.switch_spec.specs.Meaning.{receiver}
use Rattle.live_desk.specs.Sums.{HasLooked, reads_counters}
use Rattle.snap_worker.specs.Sums.{AreSums, NotesOwn, noted_by}
use Rattle.p4_types.specs.declared.records.Output.{Output}
use Rattle.pub_snap.proofs.Listings.{begins_trans}
use Rattle.live_desk.specs.declared.call_steps.CallSteps.{CallSteps}
use Rattle.p4_types.specs.declared.calls.Call.{Call}
use Rattle.p4_types.specs.declared.calls.Reply.{Reply}
use Rattle.plane_image.specs.Image.{steps_of}
use Rattle.plane_spec.specs.Config.{Event}
use Rattle.plane_spec.specs.Planes.{ControlState}
use Rattle.pub_snap.specs.Beginnings.{Beginning, Begins}
use Rattle.snap_worker.specs.Working.{Working, state_after, verdict_in}
use Rattle.switch_spec.specs.Answer.{answer_to}
use Rattle.switch_spec.specs.Counts.{Figures}
use Rattle.switch_spec.specs.History.{is_unavailable}

-- ---- Beginnings of each other are equal

nothing_more : (xs more : List Event) → length (xs ++ more) ≤ length xs → more ≡ []
nothing_more xs [] h = refl
nothing_more xs (event ∷ more) h = absurd (omega (arith, h, length-append xs (event ∷ more)))

same_events : (xs ys : List Event) → IsPrefix xs ys → IsPrefix ys xs → xs ≡ ys
same_events xs ys p q =
    let few : length (xs ++ p.0) ≤ length xs = omega (arith, ap length p.1, ap length q.1, length-append ys q.0) in
    let none : p.0 ≡ [] = nothing_more xs p.0 few in
    sym (append-nil xs) ∙ ap (λ (l : List Event). xs ++ l) (sym none) ∙ p.1

abbrev with_list : Beginning → List Event → Beginning
with_list b events = record b { events = events }

same_beginnings : (a b : Beginning) → Begins a b → Begins b a → a ≡ b
same_beginnings a b p q =
    ap (λ l. record a { list = l }) (sym p.list)
    ∙ ap (λ s. record { list = b.list; start = s; events = a.events }) (sym p.start)
    ∙ ap (with_list b) (same_events a.events b.events p.events q.events)

-- what learns a list that begins with all that it knew knows just that list
pub learns : (old told new : Beginning) → Begins old told → Begins told new → ((new ≡ old) ⊎ (new ≡ told)) → new ≡ told
learns old told new grows learnt one =
    ⊎_elim (λ (e : new ≡ old). e ∙ same_beginnings old told grows (subst (λ (b : Beginning). Begins told b) e learnt)) (λ (e : new ≡ told). e) one

-- ---- A list that goes on has no more of a caller's events than its calls made

pub alone : (lane : ℕ) (last base : Beginning) (made : List CallSteps) → Begins last base → IsCounted lane last.events made → IsCounted lane base.events made
    → events_by lane base.events ≡ events_by lane last.events
alone lane last base made begins before now =
    let more : List Event = begins.events.0 in
    let is : last.events ++ more ≡ base.events = begins.events.1 in
    ap (events_by lane) (sym is) ∙ no_more_events lane last.events more (ap (made_by_of lane) is ∙ now ∙ sym before)

-- ---- A call adds its own events to those of its caller

own_by : (b : Bool) (call : Call) (g : Figures) (lane number n : ℕ) (c new : ControlState) (given now : List Event) (reply : Reply) → HandledBy b c n given (answer_to c g lane number call) reply new now
    → events_by lane now ≡ events_by lane given ++ (if b then [] else (answer_to c g lane number call).events)
own_by true call g lane number n c new given now reply h = ap (events_by lane) h.handed ∙ sym (append-nil (events_by lane given))
own_by false call g lane number n c new given now reply h =
    let own : List Event = (answer_to c g lane number call).events in
    ap (events_by lane) h.handed
    ∙ filter-append (λ (x : Event). is_by lane x) given own
    ∙ ap (λ (l : List Event). events_by lane given ++ l) (all_own lane own (answer_by call c g lane number))

pub own_go_on : OwnGoOn
own_go_on call reply before after called =
    let base : Beginning = called.base in
    own_by (is_unavailable reply.code) call (figures_of called.figures) before.lane (raised before.calls 1) (length base.events) (state_after base) (state_after after.last) base.events after.last.events reply called.made.handled
    ∙ ap (λ (l : List Event). l ++ events_of_call call reply before.lane (raised before.calls 1) base called.figures) called.own

-- ---- A pass once it made a call

seen_by : (call : Call) (slots next : ℕ) (figures : Option (List (ℕ × ℕ))) (worker : Working) → slots ≡ next → IfSome figures (λ loaded. AreSums loaded (noted_by worker.seat))
    → IfSome figures (λ loaded. NotesOwn (length loaded) worker.seat) → IfSome figures (λ loaded. reads_counters call ≡ true → length loaded ≡ slots) → HasSeen call next figures worker
seen_by call slots next None worker is sums own drawn = tt
seen_by call slots next (Some loaded) worker is sums own drawn = (sums, own, λ asks. drawn asks ∙ is)

abbrev with_told : Working → Beginning → Working
with_told worker told = record worker { told = told }

-- what was made of a call behind the lock is what the pass's call comes to
pub called : (call : Call) (reply : Reply) (lane : ℕ) (entries more : List CallSteps) (last base told : Beginning) (worker looked after : Working) (waiting : List Output) (slots : ℕ) (figures : Option (List (ℕ × ℕ)))
    → Begins worker.told base → Begins last worker.told → IsCounted lane last.events entries → IsCounted lane base.events entries → IsMade lane (raised (length entries) 1) call figures base reply told
    → Begins base told → length more ≡ length entries + 1 → HasLooked worker looked → IfSome figures (λ loaded. AreSums loaded (noted_by looked.seat)) → IfSome figures (λ loaded. NotesOwn (length loaded) looked.seat)
    → IfSome figures (λ loaded. reads_counters call ≡ true → length loaded ≡ slots) → slots ≡ (state_after base).next_slot
    → after ≡ record looked { told = after.told } → Begins told after.told → ((after.told ≡ looked.told) ⊎ (after.told ≡ told))
    → IsCalled call reply (record { lane = lane; calls = length entries; last = last; worker = worker; waiting = waiting }) (record { lane = lane; calls = length more; last = told; worker = after; waiting = waiting })
called call reply lane entries more last base told worker looked after waiting slots figures begins grew before now made goes one look sums own drawn slots_are others learnt either =
    let same : looked.told ≡ worker.told = ap (λ (w : Working). w.told) look.others in
    let told_is : after.told ≡ told =
    learns looked.told told after.told (subst (λ (b : Beginning). Begins b told) (sym same) (begins_trans worker.told base told begins goes)) learnt either in
    let seat : after.seat ≡ looked.seat = ap (λ (w : Working). w.seat) others in
    let back : record after { told = worker.told } ≡ looked =
    ap (λ (w : Working). with_told w worker.told) others ∙ ap (with_told looked) (sym same) in
    record {
      base = base;
      begins = begins;
      own = alone lane last base entries (begins_trans last worker.told base grew begins) before now;
      figures = figures;
      looked = subst (λ (w : Working). HasLooked worker w) (sym back) look;
      seen = seen_by call slots (state_after base).next_slot figures after slots_are (subst (λ (a : Account). IfSome figures (λ loaded. AreSums loaded (noted_by a))) (sym seat) sums)
          (subst (λ (a : Account). IfSome figures (λ loaded. NotesOwn (length loaded) a)) (sym seat) own) drawn;
      made = made;
      told = told_is;
      lane = refl;
      calls = one;
      waiting = refl;
    }

-- ---- A pass that is compared with all calls

-- the whole list has no event of a caller that its calls did not make
pub agreed : (lane number : ℕ) (last known base : Beginning) (entries all : List CallSteps) → Begins last known → Begins known base → number ≡ lane → entries ≡ calls_on number all
    → IsCounted lane last.events entries → AreCounted base.events all → events_by lane base.events ≡ events_by lane last.events
agreed lane number last known base entries all first second number_is own before now =
    let mine : calls_on lane all ≡ entries = sym (own ∙ ap (λ (n : ℕ). calls_on n all) number_is) in
    alone lane last base entries (begins_trans last known base first second) before (subst (λ (l : List CallSteps). IsCounted lane base.events l) mine (now lane))

-- ---- A packet that was run at last

-- the same worker, but for its refusals
abbrev pub refused_so : Working → ℕ → Working
refused_so worker n = record worker { refusals = n }

pub has_run : (port : ℕ) (packet : List ℕ) (first before after : Working) (verdict : Verdict) → before ≡ refused_so first before.refusals → Begins before.told after.told
    → verdict ≡ verdict_in (state_after after.told) port packet → after.steps ≡ steps_in after.told.events → before.steps ≤ after.steps → after.receiver ≡ receiver (state_after after.told)
    → after.seat ≡ after_packet (length packet) verdict.hits before.seat → HasRun port packet first after verdict
has_run port packet first before after verdict same told meant steps later to counted = record {
  told = subst (λ (b : Beginning). Begins b after.told) (ap (λ (w : Working). w.told) same) told;
  meant = meant;
  steps = steps;
  later = subst (λ (n : ℕ). n ≤ after.steps) (ap (λ (w : Working). w.steps) same) later;
  receiver = to;
  counted = counted ∙ ap (λ (w : Working). after_packet (length packet) verdict.hits w.seat) same;
}

-- ---- A packet is run behind its call

no_fewer_steps : (a b : Beginning) → Begins a b → steps_in a.events ≤ steps_in b.events
no_fewer_steps a b begins =
    let more : List Event = begins.events.0 in
    let split : sum_by steps_of b.events ≡ sum_by steps_of a.events + sum_by steps_of more = ap (sum_by steps_of) (sym begins.events.1) ∙ sum_by-append steps_of a.events more in
    omega (arith, split)

run_by : (packet : Option (List ℕ)) (cpu : ℕ) (between after : Passing) → HasFollowed packet cpu between after → is_some packet ≡ true → steps_in between.worker.told.events ≤ after.worker.steps
run_by None cpu between after h some = absurd (cc some)
run_by (Some packet) cpu between after h some = (let no_fewer = no_fewer_steps between.worker.told after.worker.told h.ran.told in omega (arith, no_fewer, h.ran.steps))

pub runs_behind : RunsBehindItsCall
runs_behind cpu call shown before after asked some =
    let between : Passing = asked.between in
    let through : shown.steps ≡ steps_in between.worker.told.events =
    ap (λ (r : Reply). r.steps) asked.shown_is ∙ asked.called.made.steps ∙ ap (λ (b : Beginning). steps_in b.events) (sym asked.called.told) in
    let run = run_by asked.reply.packet cpu between after asked.followed (ap (λ (r : Reply). is_some r.packet) (sym asked.shown_is) ∙ some) in
    omega (arith, through, run)
