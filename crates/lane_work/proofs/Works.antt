-- How the work of a lane goes on.
use Rattle.std.proofs.Common.{◌≡◌, ℕ, ◌+◌, ◌*◌, ◌≤◌, List, [], ◌∷◌, ◌++◌, length, map, fold, refl, sym, ap, subst, ◌∙◌, arith}
use Rattle.std.specs.List.{AllByRecursion, AllZip, count_by}
use Rattle.std.proofs.lemmas.List.{map-append, length-map}
use Rattle.std.proofs.lemmas.List.Sums.{fold-append}
use Rattle.counter_bank.specs.Account.{Account}
use Rattle.counter_bank.specs.Figures.{packets_of, bytes_of}
use Rattle.lane_work.proofs.Fitting.{fits_go_on, shares_go_on}
use Rattle.lane_work.proofs.Lists.{each_map}
use Rattle.lane_work.proofs.Turns.{in_turn_next}
use Rattle.lane_work.specs.Laws.{WorkBegins, WorkRuns, WorkStays, WorkIsShare, LeastIsCovered}
use Rattle.lane_work.specs.Running.{beside, share_of, IsWork}
use Rattle.lane_work.specs.Shares.{Share, IsShare, outcomes}
use Rattle.lane_work.specs.Work.{Work, next_record}
use Rattle.p4_types.specs.declared.events.Start.{Start}
use Rattle.p4_types.specs.declared.records.Record.{Record}
use Rattle.p4_types.specs.declared.tape.Who.{Who}
use Rattle.plane_spec.proofs.Lists.{All-weaken, All-snoc}
use Rattle.plane_spec.specs.Config.{Event}
use Rattle.pub_snap.specs.Beginnings.{Beginning}
use Rattle.snap_worker.proofs.Counted.{counts_hits}
use Rattle.snap_worker.specs.Laws.{added_by}
use Rattle.switch_spec.specs.Carrying.{Fits, InTurn}
use Rattle.switch_spec.specs.Counts.{Arrival, Carried, Figures, no_figures, counted, figures_after, is_of_slot}
use Rattle.switch_spec.specs.History.{steps_of}

-- ---- Packets beside their records

pub beside_next : (arrivals : List Arrival) (records : List Record) (arrival : Arrival) (r : Record) → length arrivals ≡ length records
    → beside (arrivals ++ arrival ∷ []) (records ++ r ∷ []) ≡ beside arrivals records ++ (record { arrival = arrival; outcome = r }) ∷ []
beside_next [] [] arrival r same = refl
beside_next [] (x ∷ records) arrival r same = absurd (omega (arith, same))
beside_next (a ∷ arrivals) [] arrival r same = absurd (omega (arith, same))
beside_next (a ∷ arrivals) (x ∷ records) arrival r same =
    let c : Carried = record { arrival = a; outcome = x } in
    ap (λ (cs : List Carried). c ∷ cs) (beside_next arrivals records arrival r (omega (arith, same)))

-- there are as many packets as records
pub as_many : (arrivals : List Arrival) (least : List ℕ) (work : Work) → IsWork arrivals least work → length arrivals ≡ length work.records
as_many arrivals least work h =
    let packets : List Carried = beside arrivals work.records in
    sym (ap length h.arrived) ∙ length-map packets (λ (c : Carried). c.arrival) ∙ sym (length-map packets (λ (c : Carried). c.outcome)) ∙ ap length h.recorded

least_next : (least : List ℕ) (records : List Record) (n : ℕ) (r : Record) → AllZip (λ (m : ℕ) (e : Record). m ≤ e.steps) least records → n ≤ r.steps
    → AllZip (λ (m : ℕ) (e : Record). m ≤ e.steps) (least ++ n ∷ []) (records ++ r ∷ [])
least_next [] [] n r h le = (le, tt)
least_next [] (x ∷ records) n r h le = absurd h
least_next (m ∷ least) [] n r h le = absurd h
least_next (m ∷ least) (x ∷ records) n r h le = (h.0, least_next least records n r h.1 le)

-- ---- A share with a packet more

-- a share with a packet more, counted by the seat as it is then
abbrev share_with : Share → Carried → Account → Share
share_with share packet seat = record { who = share.who; carried = share.carried ++ packet ∷ []; seat = seat }

-- the seat counted the packet
abbrev IsCounted : Share → Carried → Account → Type 0
IsCounted share packet seat = (slot : ℕ) → added_by seat slot ≡ figures_after (added_by share.seat) packet.outcome.hits (length packet.arrival.1) slot

outcomes_next : (packets : List Carried) (packet : Carried) → outcomes (packets ++ packet ∷ []) ≡ outcomes packets ++ packet.outcome ∷ []
outcomes_next packets packet = map-append (λ (c : Carried). c.outcome) packets (packet ∷ [])

added_next : (share : Share) (packet : Carried) (seat : Account) (slot : ℕ) → added_by share.seat slot ≡ fold counted no_figures share.carried slot → IsCounted share packet seat
    → added_by seat slot ≡ fold counted no_figures (share.carried ++ packet ∷ []) slot
added_next share packet seat slot added more =
    let k : ℕ = count_by (is_of_slot slot) packet.outcome.hits in
    more slot ∙ ap (λ (x : ℕ × ℕ). (x.0 + k, x.1 + k * length packet.arrival.1)) added
    ∙ sym (ap (λ (g : Figures). g slot) (fold-append counted no_figures share.carried (packet ∷ [])))

-- the packets before are after no more steps than the list has
no_later : (start : Start) (list : List Event) (packets : List Carried) (n : ℕ) → AllByRecursion (Fits start list) packets → length (steps_of list) ≤ n
    → AllByRecursion (λ (r : Record). r.steps ≤ n) (outcomes packets)
no_later start list packets n fits le =
    each_map (λ (r : Record). r.steps ≤ n) (λ (c : Carried). c.outcome) packets
    (All-weaken (Fits start list) (λ (c : Carried). c.outcome.steps ≤ n) (λ c one. omega (arith, one.in_list, le)) packets fits)

pub share_next : (start : Start) (list more : List Event) (share : Share) (packet : Carried) (seat : Account) → IsShare start list share
    → packet.outcome.who ≡ share.who → packet.outcome.index ≡ length share.carried + 1 → length (steps_of list) ≤ packet.outcome.steps
    → Fits start (list ++ more) packet → IsCounted share packet seat → IsShare start (list ++ more) (share_with share packet seat)
share_next start list more share packet seat h name index later fits counts =
    let records : List Record = outcomes share.carried in
    let next = outcomes_next share.carried packet in
    let number : packet.outcome.index ≡ length records + 1 = index ∙ ap (λ n. n + 1) (sym (length-map share.carried (λ (c : Carried). c.outcome))) in
    let turn = in_turn_next share.who records packet.outcome h.own h.in_turn name number (no_later start list share.carried packet.outcome.steps h.fits later) in
    record {
      own = subst (λ (rs : List Record). AllByRecursion (λ (r : Record). r.who ≡ share.who) rs) (sym next) (All-snoc (λ (r : Record). r.who ≡ share.who) records packet.outcome h.own name);
      in_turn = subst (λ (rs : List Record). InTurn [] rs) (sym next) turn;
      fits = All-snoc (Fits start (list ++ more)) share.carried packet (All-weaken (Fits start list) (Fits start (list ++ more)) (fits_go_on start list more) share.carried h.fits) fits;
      added = λ slot. added_next share packet seat slot (h.added slot) counts;
    }

-- ---- Work

pub work_begins : WorkBegins
work_begins who told refusals seat none = record {
  arrived = refl;
  recorded = refl;
  late_enough = tt;
  share = record {
    own = tt;
    in_turn = tt;
    fits = tt;
    added = λ slot. ap (λ (xs : List ℕ). (packets_of xs slot, bytes_of xs slot)) none;
  };
}

-- a share of a lane that was told of more
told_more : (before after : Beginning) (share : Share) → after.start ≡ before.start → (more : List Event) → before.events ++ more ≡ after.events
    → IsShare before.start (before.events ++ more) share → IsShare after.start after.events share
told_more before after share start more events h =
    subst (λ (s : Start). IsShare s after.events share) (sym start) (subst (λ (list : List Event). IsShare before.start list share) events h)

fits_less : (before after : Beginning) (packet : Carried) → after.start ≡ before.start → (more : List Event) → before.events ++ more ≡ after.events
    → Fits after.start after.events packet → Fits before.start (before.events ++ more) packet
fits_less before after packet start more events h =
    subst (λ (list : List Event). Fits before.start list packet) (sym events) (subst (λ (s : Start). Fits s after.events packet) start h)

pub work_runs : WorkRuns
work_runs arrivals least n port packet before after h ran le =
    let r : Record = next_record before after.told port packet in
    let c : Carried = record { arrival = (port, packet); outcome = r } in
    let packets : List Carried = beside arrivals before.records in
    let next : beside (arrivals ++ (port, packet) ∷ []) after.records ≡ packets ++ c ∷ [] =
    ap (beside (arrivals ++ (port, packet) ∷ [])) ran.records ∙ beside_next arrivals before.records (port, packet) r (as_many arrivals least before h) in
    let more : List Event = ran.told.events.0 in
    let number : length before.records + 1 ≡ length packets + 1 = ap (λ k. k + 1) (sym (ap length h.recorded) ∙ length-map packets (λ (x : Carried). x.outcome)) in
    let learnt = ran.learnt in
    let steps = ran.steps in
    let counts : IsCounted (share_of arrivals before) c after.seat =
    λ slot. ap (λ (seat : Account). added_by seat slot) ran.counted ∙ (counts_hits (length packet) r.hits before.seat).added slot in
    let all = share_next before.told.start before.told.events more (share_of arrivals before) c after.seat h.share refl number (omega (arith, learnt, steps))
    (fits_less before.told after.told c ran.told.start more ran.told.events.1 ran.fits) counts in
    let told = told_more before.told after.told (share_with (share_of arrivals before) c after.seat) ran.told.start more ran.told.events.1 all in
    let packets_are = subst (λ (cs : List Carried). IsShare after.told.start after.told.events (record { who = before.who; carried = cs; seat = after.seat })) (sym next) told in
    record {
      arrived = ap (map (λ (x : Carried). x.arrival)) next ∙ map-append (λ (x : Carried). x.arrival) packets (c ∷ []) ∙ ap (λ (xs : List Arrival). xs ++ (port, packet) ∷ []) h.arrived;
      recorded = ap outcomes next ∙ outcomes_next packets c ∙ ap (λ (xs : List Record). xs ++ r ∷ []) h.recorded ∙ sym ran.records;
      late_enough = subst (λ (rs : List Record). AllZip (λ (m : ℕ) (e : Record). m ≤ e.steps) (least ++ n ∷ []) rs) (sym ran.records) (least_next least before.records n r h.late_enough (omega (arith, le, learnt, steps)));
      share = subst (λ (name : Who). IsShare after.told.start after.told.events (record { who = name; carried = beside (arrivals ++ (port, packet) ∷ []) after.records; seat = after.seat })) (sym ran.who) packets_are;
    }

pub work_stays : WorkStays
work_stays arrivals least before after h keeps =
    let all = shares_go_on before.told.start before.told.events keeps.told.events.0 (share_of arrivals before) h.share in
    let told = told_more before.told after.told (share_of arrivals before) keeps.told.start keeps.told.events.0 keeps.told.events.1 all in
    let counted_by : IsShare after.told.start after.told.events (record { who = before.who; carried = beside arrivals before.records; seat = after.seat }) = record {
      own = told.own;
      in_turn = told.in_turn;
      fits = told.fits;
      added = λ slot. ap (λ (xs : List ℕ). (packets_of xs slot, bytes_of xs slot)) keeps.added ∙ told.added slot;
    } in
    let named = subst (λ (name : Who). IsShare after.told.start after.told.events (record { who = name; carried = beside arrivals before.records; seat = after.seat })) (sym keeps.who) counted_by in
    let same = sym keeps.records in
    record {
      arrived = subst (λ (rs : List Record). map (λ (c : Carried). c.arrival) (beside arrivals rs) ≡ arrivals) same h.arrived;
      recorded = subst (λ (rs : List Record). outcomes (beside arrivals rs) ≡ rs) same h.recorded;
      late_enough = subst (λ (rs : List Record). AllZip (λ (n : ℕ) (r : Record). n ≤ r.steps) least rs) same h.late_enough;
      share = subst (λ (rs : List Record). IsShare after.told.start after.told.events (record { who = after.who; carried = beside arrivals rs; seat = after.seat })) same named;
    }

pub work_is_share : WorkIsShare
work_is_share arrivals least work last h begins = (work_stays arrivals least work (record work { told = last }) h (record { who = refl; told = begins; records = refl; added = refl })).share

pub least_is_covered : LeastIsCovered
least_is_covered [] [] h = tt
least_is_covered [] (c ∷ packets) h = absurd h
least_is_covered (made ∷ calls) [] h = absurd h
least_is_covered (made ∷ calls) (c ∷ packets) h = (h.0, least_is_covered calls packets h.1)
