-- A packet that a worker ran is one that its lane ran.
use Rattle.std.proofs.Common.{◌≡◌, ℕ, ◌+◌, ◌-◌, ◌^◌, ◌≤◌, List, [], ◌∷◌, ◌++◌, length, Option, Some, None, refl, sym, ap, ◌∙◌, subst, arith}
use Rattle.std.specs.Prelude.{sum_by}
use Rattle.std.specs.List.{cons_option}
use Rattle.std.proofs.lemmas.List.Sums.{sum_by-cons}
use Rattle.counter_bank.specs.Account.{Account}
use Rattle.lane_work.proofs.Fitting.{few_steps, no_fewer_steps, told_fits}
use Rattle.lane_work.specs.Work.{Work, Ran, steps_told}
use Rattle.p4_types.specs.declared.events.Event.TheVariants as events
use Rattle.p4_types.specs.declared.records.Record.{Record}
use Rattle.p4_types.specs.declared.tape.Who.{Who}
use Rattle.packet_spec.specs.Meaning.{Verdict}
use Rattle.plane_image.specs.Image as image
use Rattle.plane_spec.specs.Config.{Event}
use Rattle.plane_spec.specs.Legal.{Legal}
use Rattle.plane_spec.specs.Planes.{opened}
use Rattle.pub_snap.specs.Beginnings.{Beginning, Begins}
use Rattle.pub_snap.specs.Snapshots.{steps_in}
use Rattle.snap_worker.specs.Counting.{after_packet}
use Rattle.snap_worker.specs.Working.{state_after, verdict_in}
use Rattle.switch_spec.specs.History.{step_of, steps_of}
use Rattle.switch_spec.specs.Meaning.{carried, receiver, record_of}

-- an event is as many steps as it gives
one_step : (event : Event) → image.steps_of event ≡ length (cons_option (step_of event) [])
one_step (events.Arbitrate by config) = refl
one_step (events.Leave caller call) = refl
one_step (events.Change by change) = refl
one_step (events.Batch by list) = refl
one_step (events.Save by config) = refl
one_step (events.Commit by content) = refl
one_step events.Close = refl

behind : {X : Type 0} (o : Option X) (xs : List X) → length (cons_option o xs) ≡ length (cons_option o []) + length xs
behind None xs = omega arith
behind (Some x) xs = omega arith

all_steps : (list : List Event) → sum_by image.steps_of list ≡ length (steps_of list)
all_steps [] = refl
all_steps (event ∷ list) = omega (arith, sum_by-cons image.steps_of event list, one_step event, behind (step_of event) (steps_of list), all_steps list)

-- no list of events that was told is so long that its steps stand still
pub steps_counted : (list : List Event) → length list ≤ 2 ^ 64 - 1 → length (steps_of list) ≤ length list → steps_in list ≡ length (steps_of list)
steps_counted list few no_more = (let all = all_steps list in omega (arith, few, no_more, all))

begins_later : (a b : Beginning) → Begins a b → steps_told a ≤ steps_told b
begins_later a b begins = omega (arith, no_fewer_steps a.events begins.events.0, ap (λ (list : List Event). length (steps_of list)) begins.events.1)

-- the record of a packet by what a worker says of it
said_record : (told : Beginning) (who : Who) (index steps port : ℕ) (packet : List ℕ) (r : Option ℕ) (v : Verdict) → steps ≡ steps_told told → r ≡ receiver (state_after told) → v ≡ verdict_in (state_after told) port packet
    → record_of who index steps r v ≡ carried who index (steps_told told) (state_after told) port packet
said_record told who index steps port packet r v steps_is r_is v_is =
    ap (λ (n : ℕ). record_of who index n r v) steps_is ∙ ap (λ (o : Option ℕ). record_of who index (steps_told told) o v) r_is
    ∙ ap (λ (x : Verdict). record_of who index (steps_told told) (receiver (state_after told)) x) v_is

-- the lane after a packet, by what its worker knows and says then
abbrev pub after_run : Work → List Record → Beginning → ℕ → ℕ → Option ℕ → Account → Verdict → Work
after_run before records told refusals steps r seat v = record {
  who = before.who;
  told = told;
  refusals = refusals;
  steps = steps;
  records = records ++ record_of before.who (length records + 1) steps r v ∷ [];
  seat = seat;
}

pub ran : (port : ℕ) (packet : List ℕ) (before : Work) (told : Beginning) (refusals steps : ℕ) (r : Option ℕ) (seat : Account) (v : Verdict)
    → Begins before.told told → Legal (opened told.start) told.events → length told.events ≤ 2 ^ 64 - 1 → v ≡ verdict_in (state_after told) port packet → steps ≡ steps_in told.events
    → before.steps ≤ steps → r ≡ receiver (state_after told) → seat ≡ after_packet (length packet) v.hits before.seat → refusals ≡ before.refusals
    → Ran port packet before (after_run before before.records told refusals steps r seat v)
ran port packet before told refusals steps r seat v begins legal few v_is steps_is later r_is seat_is refusals_are =
    let counted : steps ≡ steps_told told = steps_is ∙ steps_counted told.events few (few_steps told.events) in
    let same = said_record told before.who (length before.records + 1) steps port packet r v counted r_is v_is in
    let more = begins_later before.told told begins in
    record {
      told = begins;
      records = ap (λ (x : Record). before.records ++ x ∷ []) same;
      fits = told_fits told.start told.events before.who (length before.records + 1) port packet legal;
      steps = counted;
      learnt = omega (arith, more, counted);
      later = later;
      counted = seat_is ∙ ap (λ (x : Verdict). after_packet (length packet) x.hits before.seat) v_is;
      who = refl;
      refusals = refusals_are;
    }

-- the same behind records that are the lane's own
pub ran_behind : (port : ℕ) (packet : List ℕ) (before : Work) (records : List Record) (told : Beginning) (refusals steps : ℕ) (r : Option ℕ) (seat : Account) (v : Verdict)
    → records ≡ before.records → Ran port packet before (after_run before before.records told refusals steps r seat v) → Ran port packet before (after_run before records told refusals steps r seat v)
ran_behind port packet before records told refusals steps r seat v same h =
    subst (λ (rs : List Record). Ran port packet before (after_run before rs told refusals steps r seat v)) (sym same) h
