-- A lane's pass once it made its next call.
use Rattle.std.proofs.Common.{◌≡◌, ℕ, ◌≤◌, Bool, cond, List, [], ◌∷◌, ◌++◌, length, map, Option, Some, None, option_map, is_some, refl, ap, sym, subst, ◌∙◌, arith, append_assoc}
use Rattle.std.specs.List.{filter, filter_map, cons_option}
use Rattle.std.proofs.lemmas.List.{append-nil, map-append}
use Rattle.std.proofs.lemmas.List.Elements.{filter-append, filter_map-append}
use Rattle.counter_bank.specs.Account.{Account, BankId}
use Rattle.ctl_lock.specs.Calls.{journal_of, made_of}
use Rattle.ctl_lock.specs.Locked.{IsWhole}
use Rattle.ctl_lock.specs.Passing.{Follows, IsOwn, IsPass, RunsOut, entering, least_of}
use Rattle.ctl_lock.specs.Reading.{IsReading, Looks, Turn, behind_packet}
use Rattle.snap_worker.specs.Sums.{AreSums, NoMore, noted_by}
use Rattle.ctl_lock.specs.declared.signed.Signed.{Signed}
use Rattle.snap_worker.proofs.Noting.{counts_noted, none_more, no_more_as}
use Rattle.ctl_lock.proofs.Turning.{reading_more}
use Rattle.event_log.specs.Lists.{ListName}
use Rattle.lane_table.specs.Lanes.{Lane}
use Rattle.lane_work.proofs.Fitting.{no_fewer_steps}
use Rattle.lane_work.proofs.Works.{as_many, beside_next, work_begins, work_runs, work_stays}
use Rattle.lane_work.specs.Running.{beside, IsWork, Keeps}
use Rattle.lane_work.specs.Work.{Work, new_work, next_record, steps_told}
use Rattle.p4_types.specs.declared.events.Start.{Start}
use Rattle.p4_types.specs.declared.records.Record.{Record}
use Rattle.p4_types.specs.declared.tape.Who.{Who}
use Rattle.p4_types.specs.declared.tape.Who.TheVariants.{Controller}
use Rattle.plane_spec.specs.Config.{Event}
use Rattle.pub_snap.proofs.Listings.{begins_self}
use Rattle.pub_snap.specs.Beginnings.{Beginning, Begins}
use Rattle.switch_spec.specs.Carrying.{packet_out, from_cpu}
use Rattle.switch_spec.specs.Counts.{Arrival, Carried}
use Rattle.switch_spec.specs.History.{Made, steps_of}
use Rattle.switch_spec.specs.declared.calls.LaneCall.{LaneCall}

-- ---- The packets that calls made enter

journal_next : (made : List Signed) (signed : Signed) → journal_of (made ++ signed ∷ []) ≡ journal_of made ++ made_of signed ∷ []
journal_next made signed = map-append made_of made (signed ∷ [])

entering_next : (start : Start) (made : List Signed) (signed : Signed) → entering start (made ++ signed ∷ []) ≡ entering start made ++ cons_option (option_map (from_cpu start) signed.entry.reply.packet) []
entering_next start made signed = ap (filter_map (packet_out start)) (journal_next made signed) ∙ filter_map-append (packet_out start) (journal_of made) (made_of signed ∷ [])

abbrev has_packet : Made → Bool
has_packet made = is_some made.entry.reply.packet

abbrev steps_by : Made → ℕ
steps_by made = made.entry.reply.steps

least_next : (made : List Signed) (signed : Signed) → least_of (made ++ signed ∷ []) ≡ least_of made ++ map steps_by (cond (is_some signed.entry.reply.packet) (made_of signed ∷ []) [])
least_next made signed =
    ap (λ (j : List Made). map steps_by (filter has_packet j)) (journal_next made signed)
    ∙ ap (map steps_by) (filter-append has_packet (journal_of made) (made_of signed ∷ []))
    ∙ map-append steps_by (filter has_packet (journal_of made)) (cond (is_some signed.entry.reply.packet) (made_of signed ∷ []) [])

-- ---- A lane that was told of more has been told of no fewer steps

no_fewer : (a b : Beginning) → Begins a b → steps_told a ≤ steps_told b
no_fewer a b begins = (let more = begins.events.0 in omega (arith, no_fewer_steps a.events more, ap (λ (l : List Event). length (steps_of l)) begins.events.1))

-- ---- What a look at counters leaves

looked_keeps : (before after : Work) → Looks before after → Keeps before after
looked_keeps before after looks = record {
  who = ap (λ (w : Work). w.who) looks.others;
  told = subst (λ (b : Beginning). Begins before.told b) (sym (ap (λ (w : Work). w.told) looks.others)) (begins_self before.told);
  records = ap (λ (w : Work). w.records) looks.others;
  added = looks.seat.added;
}

looked_own : (list : ListName) (start : Start) (bank : BankId) (who : Who) (before after : Work) → Looks before after → IsOwn list start bank who before → IsOwn list start bank who after
looked_own list start bank who before after looks own = record {
  who_is = ap (λ (w : Work). w.who) looks.others ∙ own.who_is;
  list_is = ap (λ (w : Work). w.told.list) looks.others ∙ own.list_is;
  start_is = ap (λ (w : Work). w.told.start) looks.others ∙ own.start_is;
  bank_is = looks.seat.bank ∙ own.bank_is;
  one_part = looks.seat.parts ∙ own.one_part;
}

-- ---- With one call more

-- what a call leaves of a lane's work, as its pass has it
record IsLeft (list : ListName) (start : Start) (bank : BankId) (lane : ℕ) (made : List Signed) (work : Work) : Type 0 where
  own : IsOwn list start bank (Controller lane) work
  work_is : IsWork (entering start made) (least_of made) work
  reading : IsReading made (beside (entering start made) work.records) (noted_by work.seat)

-- a call that made no packet enter
quiet : (list : ListName) (start : Start) (bank : BankId) (lane : ℕ) (calls todo : List LaneCall) (made : List Signed) (work seen : Work) (signed : Signed)
    → IsPass list start bank lane calls made todo work → Looks work seen → AreSums signed.figures (noted_by seen.seat) → signed.entry.reply.packet ≡ None
    → IsLeft list start bank lane (made ++ signed ∷ []) seen
quiet list start bank lane calls todo made work seen signed h looks sums none =
    let arrivals : List Arrival = entering start made in
    let same : entering start (made ++ signed ∷ []) ≡ arrivals =
    entering_next start made signed ∙ ap (λ (p : Option (List ℕ)). arrivals ++ cons_option (option_map (from_cpu start) p) []) none ∙ append-nil arrivals in
    let least : least_of (made ++ signed ∷ []) ≡ least_of made =
    least_next made signed ∙ ap (λ (p : Option (List ℕ)). least_of made ++ map steps_by (cond (is_some p) (made_of signed ∷ []) [])) none ∙ append-nil (least_of made) in
    let stays = work_stays arrivals (least_of made) work seen h.work_is (looked_keeps work seen looks) in
    let turn : Turn = record { signed = signed; sums = noted_by seen.seat; packet = None } in
    let packets : beside (entering start (made ++ signed ∷ [])) seen.records ≡ beside arrivals work.records ++ [] =
    ap (λ (a : List Arrival). beside a seen.records) same ∙ ap (λ (w : Work). beside arrivals w.records) looks.others ∙ sym (append-nil (beside arrivals work.records)) in
    let read = reading_more made (beside arrivals work.records) (noted_by work.seat) turn h.reading (sym (ap is_some none)) looks.seat.more sums (noted_by seen.seat) (none_more (noted_by seen.seat)) in
    record {
      own = looked_own list start bank (Controller lane) work seen looks h.own;
      work_is = subst (λ (l : List ℕ). IsWork (entering start (made ++ signed ∷ [])) l seen) (sym least) (subst (λ (a : List Arrival). IsWork a (least_of made) seen) (sym same) stays);
      reading = subst (λ (p : List Carried). IsReading (made ++ signed ∷ []) p (noted_by seen.seat)) (sym packets) read;
    }

-- a call that made a packet enter, which was run
busy : (list : ListName) (start : Start) (bank : BankId) (lane : ℕ) (calls todo : List LaneCall) (made : List Signed) (work seen done : Work) (signed : Signed) (told : Beginning) (packet : List ℕ)
    → IsPass list start bank lane calls made todo work → Looks work seen → AreSums signed.figures (noted_by seen.seat) → signed.entry.reply.packet ≡ Some packet
    → steps_told told ≡ signed.entry.reply.steps → RunsOut start.cpu packet told seen done → IsLeft list start bank lane (made ++ signed ∷ []) done
busy list start bank lane calls todo made work seen done signed told packet h looks sums some told_steps out =
    let arrivals : List Arrival = entering start made in
    let least : List ℕ = least_of made in
    let n : ℕ = signed.entry.reply.steps in
    let arrival : Arrival = (start.cpu, packet) in
    let more : entering start (made ++ signed ∷ []) ≡ arrivals ++ arrival ∷ [] =
    entering_next start made signed ∙ ap (λ (p : Option (List ℕ)). arrivals ++ cons_option (option_map (from_cpu start) p) []) some in
    let later : least_of (made ++ signed ∷ []) ≡ least ++ n ∷ [] =
    least_next made signed ∙ ap (λ (p : Option (List ℕ)). least ++ map steps_by (cond (is_some p) (made_of signed ∷ []) [])) some in
    let stays = work_stays arrivals least work seen h.work_is (looked_keeps work seen looks) in
    let ready : Work = record seen { told = out.known; refusals = out.ran.refusals } in
    let keeps : Keeps seen ready = record { who = refl; told = out.own; records = refl; added = refl } in
    let before = work_stays arrivals least seen ready stays keeps in
    let enough : n ≤ steps_told out.known = omega (arith, told_steps, no_fewer told out.known out.learnt) in
    let ran = out.ran.ran in
    let runs = work_runs arrivals least n start.cpu packet ready done before ran enough in
    let r : Record = next_record ready done.told start.cpu packet in
    let carried : Carried = record { arrival = arrival; outcome = r } in
    let turn : Turn = record { signed = signed; sums = noted_by seen.seat; packet = Some carried } in
    let own = looked_own list start bank (Controller lane) work seen looks h.own in
    let packets : beside (entering start (made ++ signed ∷ [])) done.records ≡ beside arrivals work.records ++ carried ∷ [] =
    ap (λ (a : List Arrival). beside a done.records) more
    ∙ ap (beside (arrivals ++ arrival ∷ [])) ran.records
    ∙ beside_next arrivals seen.records arrival r (as_many arrivals least seen stays)
    ∙ ap (λ (w : Work). beside arrivals w.records ++ carried ∷ []) looks.others in
    let known : NoMore (behind_packet (noted_by seen.seat) (Some carried)) (noted_by done.seat) =
    no_more_as (behind_packet (noted_by seen.seat) (Some carried)) (behind_packet (noted_by seen.seat) (Some carried)) (noted_by done.seat) (none_more (behind_packet (noted_by seen.seat) (Some carried)))
    (λ slot. ap (λ (a : Account). noted_by a slot) ran.counted ∙ counts_noted (length packet) r.hits seen.seat slot) in
    let read = reading_more made (beside arrivals work.records) (noted_by work.seat) turn h.reading (sym (ap is_some some)) looks.seat.more sums (noted_by done.seat) known in
    record {
      own = record {
        who_is = ran.who ∙ own.who_is;
        list_is = out.lane.list ∙ out.own.list ∙ own.list_is;
        start_is = out.lane.start ∙ out.own.start ∙ own.start_is;
        bank_is = out.lane.bank ∙ own.bank_is;
        one_part = out.lane.parts ∙ own.one_part;
      };
      work_is = subst (λ (l : List ℕ). IsWork (entering start (made ++ signed ∷ [])) l done) (sym later) (subst (λ (a : List Arrival). IsWork a (least ++ n ∷ []) done) (sym more) runs);
      reading = subst (λ (p : List Carried). IsReading (made ++ signed ∷ []) p (noted_by done.seat)) (sym packets) read;
    }

-- by whether the call made a packet enter
left_by : (list : ListName) (start : Start) (bank : BankId) (lane : ℕ) (calls todo : List LaneCall) (made : List Signed) (work seen done : Work) (signed : Signed) (told : Beginning) (packet : Option (List ℕ))
    → IsPass list start bank lane calls made todo work → Looks work seen → AreSums signed.figures (noted_by seen.seat) → signed.entry.reply.packet ≡ packet
    → steps_told told ≡ signed.entry.reply.steps → Follows packet start.cpu told seen done → IsLeft list start bank lane (made ++ signed ∷ []) done
left_by list start bank lane calls todo made work seen done signed told None h looks sums is told_steps follows =
    subst (λ (w : Work). IsLeft list start bank lane (made ++ signed ∷ []) w) (sym follows) (quiet list start bank lane calls todo made work seen signed h looks sums is)
left_by list start bank lane calls todo made work seen done signed told (Some packet) h looks sums is told_steps follows =
    busy list start bank lane calls todo made work seen done signed told packet h looks sums is told_steps follows

-- the pass of a lane that made its next call
pub pass_more : (list : ListName) (start : Start) (bank : BankId) (lane cpu : ℕ) (calls todo : List LaneCall) (call : LaneCall) (before after : Lane Signed) (work done : Work)
    → IsPass list start bank lane calls before.entries (call ∷ todo) work → cpu ≡ start.cpu → IsWhole start list cpu call before after work done
    → IsPass list start bank lane calls after.entries todo done
pass_more list start bank lane cpu calls todo call before after work done h cpu_is whole =
    let signed : Signed = whole.signed in
    let made : List Signed = before.entries in
    let left = left_by list start bank lane calls (call ∷ todo) made work whole.seen done signed whole.told signed.entry.reply.packet h whole.looks whole.are_sums refl whole.told_steps
    (subst (λ (port : ℕ). Follows signed.entry.reply.packet port whole.told whole.seen done) cpu_is whole.follows) in
    let all : IsPass list start bank lane calls (made ++ signed ∷ []) todo done = record {
      own = left.own;
      calls_are =
          ap (λ (l : List LaneCall). l ++ todo) (map-append (λ (s : Signed). s.call) made (signed ∷ []))
          ∙ append_assoc (map (λ (s : Signed). s.call) made) (signed.call ∷ []) todo
          ∙ ap (λ (c : LaneCall). map (λ (s : Signed). s.call) made ++ c ∷ todo) whole.call_is
          ∙ h.calls_are;
      work_is = left.work_is;
      reading = left.reading;
    } in
    subst (λ (l : Lane Signed). IsPass list start bank lane calls l.entries todo done) (sym whole.lane) all

-- the pass of a lane that has made no call
pub pass_new : (list : ListName) (start : Start) (bank : BankId) (lane : ℕ) (calls : List LaneCall) (work : Work) → IsOwn list start bank (Controller lane) work
    → work ≡ new_work work.who work.told work.refusals work.seat → work.seat.added ≡ [] → IsPass list start bank lane calls [] calls work
pass_new list start bank lane calls work own fresh added = record {
  own = own;
  calls_are = refl;
  work_is = subst (λ (w : Work). IsWork [] [] w) (sym fresh) (work_begins work.who work.told work.refusals work.seat added);
  reading = record { turns = []; own = tt; made_are = refl; packets_are = refl; rising = λ slot. (omega arith, omega arith) };
}
