-- A worker's lane once it took its next item.
use Rattle.std.proofs.Common.{◌≡◌, ℕ, ◌+◌, ◌≤◌, max, List, [], ◌∷◌, ◌++◌, length, map, Option, Some, None, refl, ap, sym, subst, ◌∙◌, arith, append_assoc}
use Rattle.std.specs.List.{filter_map}
use Rattle.std.proofs.Math.Nat.{max-le}
use Rattle.std.proofs.lemmas.List.{append-nil, map-append}
use Rattle.std.proofs.lemmas.List.Elements.{filter_map-append}
use Rattle.counter_bank.specs.Account.{BankId}
use Rattle.ctl_lock.specs.Finishing.{Meeting}
use Rattle.ctl_lock.specs.Passing.{IsOwn, RunsAtLast, SameLane}
use Rattle.event_log.specs.Lists.{ListName}
use Rattle.lane_work.proofs.Fitting.{no_fewer_steps}
use Rattle.lane_work.proofs.Works.{work_begins, work_runs, work_stays}
use Rattle.lane_work.specs.Running.{IsWork, Keeps}
use Rattle.lane_work.specs.Work.{Work, new_work, steps_told}
use Rattle.p4_types.specs.declared.events.Start.{Start}
use Rattle.p4_types.specs.declared.tape.Who.TheVariants.{Worker}
use Rattle.plane_spec.specs.Config.{Event}
use Rattle.pub_snap.proofs.Listings.{begins_self}
use Rattle.pub_snap.specs.Beginnings.{Beginning, Begins}
use Rattle.run_lanes.specs.Packets.{Awaits, IsPacketPass, RunsPacket, Takes, awaited, brought, call_met, least_behind, steps_met}
use Rattle.switch_spec.specs.Counts.{Arrival}
use Rattle.switch_spec.specs.History.{steps_of}
use Rattle.switch_spec.specs.declared.calls.WorkerItem.{WorkerItem}
use Rattle.switch_spec.specs.declared.calls.WorkerItem.TheVariants.{Brings, Meets}

no_fewer : (a b : Beginning) → Begins a b → steps_told a ≤ steps_told b
no_fewer a b begins = (let more = begins.events.0 in omega (arith, no_fewer_steps a.events more, ap (λ (l : List Event). length (steps_of l)) begins.events.1))

-- ---- Meets of the items that were taken

least_packet : (n port : ℕ) (packet : List ℕ) (taken : List WorkerItem) (mets : List Meeting) → filter_map awaited taken ≡ map call_met mets
    → least_behind n (taken ++ Brings port packet ∷ []) mets ≡ least_behind n taken mets ++ steps_met n mets ∷ []
least_packet n port packet [] [] e = refl
least_packet n port packet [] (met ∷ mets) e = absurd (cc e)
least_packet n port packet (Brings p x ∷ taken) mets e = ap (λ (l : List ℕ). n ∷ l) (least_packet n port packet taken mets e)
least_packet n port packet (Meets c k ∷ taken) [] e = absurd (cc e)
least_packet n port packet (Meets c k ∷ taken) (met ∷ mets) e = least_packet (max n (steps_told met.told)) port packet taken mets (cc e)

least_meet : (n controller call : ℕ) (met : Meeting) (taken : List WorkerItem) (mets : List Meeting) → filter_map awaited taken ≡ map call_met mets
    → least_behind n (taken ++ Meets controller call ∷ []) (mets ++ met ∷ []) ≡ least_behind n taken mets
least_meet n controller call met [] [] e = refl
least_meet n controller call met [] (first ∷ mets) e = absurd (cc e)
least_meet n controller call met (Brings p x ∷ taken) mets e = ap (λ (l : List ℕ). n ∷ l) (least_meet n controller call met taken mets e)
least_meet n controller call met (Meets c k ∷ taken) [] e = absurd (cc e)
least_meet n controller call met (Meets c k ∷ taken) (first ∷ mets) e = least_meet (max n (steps_told first.told)) controller call met taken mets (cc e)

met_more : (n m : ℕ) (met : Meeting) (mets : List Meeting) → steps_met n mets ≤ m → steps_told met.told ≤ m → steps_met n (mets ++ met ∷ []) ≤ m
met_more n m met [] h told = max-le h told
met_more n m met (first ∷ mets) h told = met_more (max n (steps_told first.told)) m met mets h told

-- ---- One item more

-- a packet was run
packet_taken : (list : ListName) (start : Start) (bank : BankId) (lane port : ℕ) (packet : List ℕ) (items todo : List WorkerItem) (mets mets' : List Meeting) (work done : Work)
    → IsPacketPass list start bank lane items (Brings port packet ∷ todo) mets work → RunsPacket port packet mets mets' work done → IsPacketPass list start bank lane items todo mets' done
packet_taken list start bank lane port packet items todo mets mets' work done h runs =
    let arrivals : List Arrival = filter_map brought h.taken in
    let least : List ℕ = least_behind 0 h.taken mets in
    let n : ℕ = steps_met 0 mets in
    let ready : Work = record work { refusals = runs.ran.refusals } in
    let ran = runs.ran.ran in
    let keeps : Keeps work ready = record { who = refl; told = begins_self work.told; records = refl; added = refl } in
    let stays = work_stays arrivals least work ready h.work_is keeps in
    let run = work_runs arrivals least n port packet ready done stays ran h.learnt in
    let taken : List WorkerItem = h.taken ++ Brings port packet ∷ [] in
    let arrived : filter_map brought taken ≡ arrivals ++ (port, packet) ∷ [] = filter_map-append brought h.taken (Brings port packet ∷ []) in
    let later : least_behind 0 taken mets ≡ least ++ n ∷ [] = least_packet 0 port packet h.taken mets h.mets_are in
    let all : IsPacketPass list start bank lane items todo mets done = record {
      taken = taken;
      own = record {
        who_is = ran.who ∙ h.own.who_is;
        list_is = runs.lane.list ∙ h.own.list_is;
        start_is = runs.lane.start ∙ h.own.start_is;
        bank_is = runs.lane.bank ∙ h.own.bank_is;
        one_part = runs.lane.parts ∙ h.own.one_part;
      };
      items_are = append_assoc h.taken (Brings port packet ∷ []) todo ∙ h.items_are;
      mets_are = filter_map-append awaited h.taken (Brings port packet ∷ []) ∙ append-nil (filter_map awaited h.taken) ∙ h.mets_are;
      work_is = subst (λ (l : List ℕ). IsWork (filter_map brought taken) l done) (sym later) (subst (λ (a : List Arrival). IsWork a (least ++ n ∷ []) done) (sym arrived) run);
      learnt = (let a = h.learnt in let b = no_fewer work.told done.told ran.told in omega (arith, a, b));
    } in
    subst (λ (m : List Meeting). IsPacketPass list start bank lane items todo m done) (sym runs.same) all

pairs : (x y : ℕ × ℕ) → x.0 ≡ y.0 → x.1 ≡ y.1 → x ≡ y
pairs x y first second = ap (λ n. (n, x.1)) first ∙ ap (λ n. (y.0, n)) second

-- a call was met
call_taken : (list : ListName) (start : Start) (bank : BankId) (lane controller call : ℕ) (items todo : List WorkerItem) (mets mets' : List Meeting) (work done : Work)
    → IsPacketPass list start bank lane items (Meets controller call ∷ todo) mets work → Awaits controller call mets mets' work done → IsPacketPass list start bank lane items todo mets' done
call_taken list start bank lane controller call items todo mets mets' work done h awaits =
    let arrivals : List Arrival = filter_map brought h.taken in
    let least : List ℕ = least_behind 0 h.taken mets in
    let met : Meeting = awaits.met in
    let taken : List WorkerItem = h.taken ++ Meets controller call ∷ [] in
    let keeps : Keeps work done = record {
      who = ap (λ (w : Work). w.who) awaits.others;
      told = awaits.own;
      records = ap (λ (w : Work). w.records) awaits.others;
      added = ap (λ (w : Work). w.seat.added) awaits.others;
    } in
    let stays = work_stays arrivals least work done h.work_is keeps in
    let arrived : filter_map brought taken ≡ arrivals = filter_map-append brought h.taken (Meets controller call ∷ []) ∙ append-nil arrivals in
    let later : least_behind 0 taken (mets ++ met ∷ []) ≡ least = least_meet 0 controller call met h.taken mets h.mets_are in
    let all : IsPacketPass list start bank lane items todo (mets ++ met ∷ []) done = record {
      taken = taken;
      own = record {
        who_is = ap (λ (w : Work). w.who) awaits.others ∙ h.own.who_is;
        list_is = awaits.own.list ∙ h.own.list_is;
        start_is = awaits.own.start ∙ h.own.start_is;
        bank_is = ap (λ (w : Work). w.seat.bank) awaits.others ∙ h.own.bank_is;
        one_part = ap (λ (w : Work). w.seat.parts) awaits.others ∙ h.own.one_part;
      };
      items_are = append_assoc h.taken (Meets controller call ∷ []) todo ∙ h.items_are;
      mets_are =
          filter_map-append awaited h.taken (Meets controller call ∷ [])
          ∙ ap (λ (l : List (ℕ × ℕ)). l ++ (controller, call) ∷ []) h.mets_are
          ∙ ap (λ (p : ℕ × ℕ). map call_met mets ++ p ∷ []) (pairs (controller, call) (call_met met) (sym awaits.lane_is) (sym awaits.call_is))
          ∙ sym (map-append call_met mets (met ∷ []));
      work_is = subst (λ (l : List ℕ). IsWork (filter_map brought taken) l done) (sym later) (subst (λ (a : List Arrival). IsWork a least done) (sym arrived) stays);
      learnt = met_more 0 (steps_told done.told) met mets (let a = h.learnt in let b = no_fewer work.told done.told awaits.own in omega (arith, a, b)) (no_fewer met.told done.told awaits.learnt);
    } in
    subst (λ (m : List Meeting). IsPacketPass list start bank lane items todo m done) (sym awaits.more) all

-- the pass of a lane that took an item
pub pass_taken : (list : ListName) (start : Start) (bank : BankId) (lane : ℕ) (item : WorkerItem) (items todo : List WorkerItem) (mets mets' : List Meeting) (work done : Work)
    → IsPacketPass list start bank lane items (item ∷ todo) mets work → Takes item mets mets' work done → IsPacketPass list start bank lane items todo mets' done
pass_taken list start bank lane (Brings port packet) items todo mets mets' work done h takes = packet_taken list start bank lane port packet items todo mets mets' work done h takes
pass_taken list start bank lane (Meets controller call) items todo mets mets' work done h takes = call_taken list start bank lane controller call items todo mets mets' work done h takes

-- the pass of a lane that has taken nothing
pub pass_new : (list : ListName) (start : Start) (bank : BankId) (lane : ℕ) (items : List WorkerItem) (work : Work) → IsOwn list start bank (Worker lane) work
    → work ≡ new_work work.who work.told work.refusals work.seat → work.seat.added ≡ [] → IsPacketPass list start bank lane items items [] work
pass_new list start bank lane items work own fresh added = record {
  taken = [];
  own = own;
  items_are = refl;
  mets_are = refl;
  work_is = subst (λ (w : Work). IsWork [] [] w) (sym fresh) (work_begins work.who work.told work.refusals work.seat added);
  learnt = omega arith;
}
