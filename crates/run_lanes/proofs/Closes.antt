-- Lanes at their ends, beside the closed list.
use Rattle.std.proofs.Common.{◌≡◌, ℕ, ◌+◌, ◌≤◌, ◌==◌, Bool, true, false, cond, eqb, List, [], ◌∷◌, ◌++◌, length, map, Option, Some, None, is_some, refl, ap, sym, subst, ◌∙◌, arith, append_assoc}
use Rattle.std.specs.List.{AllByRecursion, filter, filter_map}
use Rattle.std.proofs.lemmas.List.{append-nil}
use Rattle.std.proofs.lemmas.List.Sums.{fold-append}
use Rattle.ctl_lock.proofs.Meeting.{on_lane, signed_lane}
use Rattle.ctl_lock.specs.Calls.{journal_of}
use Rattle.ctl_lock.specs.Finishing.{Meeting}
use Rattle.ctl_lock.specs.Passing.{IsOwn, IsPass, entering, least_of}
use Rattle.ctl_lock.specs.Reading.{IsReading}
use Rattle.snap_worker.specs.Sums.{noted_by}
use Rattle.ctl_lock.specs.declared.signed.Signed.{Signed}
use Rattle.counter_bank.specs.Account.{BankId}
use Rattle.event_log.specs.Lists.{ListName}
use Rattle.lane_table.specs.Lanes.{of_lane}
use Rattle.lane_work.proofs.Works.{work_stays}
use Rattle.lane_work.specs.Running.{beside, IsWork, Keeps}
use Rattle.lane_work.specs.Work.{Work}
use Rattle.p4_types.specs.declared.events.Event.TheVariants as events
use Rattle.p4_types.specs.declared.events.Start.{Start}
use Rattle.p4_types.specs.declared.tape.Who.{Who}
use Rattle.p4_types.specs.declared.tape.Who.TheVariants.{Controller, Worker}
use Rattle.plane_spec.specs.Config.{Event}
use Rattle.plane_spec.specs.Legal.{May, Legal}
use Rattle.plane_spec.specs.Planes.{ControlState, opened, apply, applied}
use Rattle.pub_snap.proofs.Listings.{begins_self}
use Rattle.pub_snap.specs.Beginnings.{Beginning, Begins}
use Rattle.run_lanes.specs.Gathered.{HasCalled, HasCarried, HasRead, IsThrough}
use Rattle.run_lanes.specs.Packets.{IsPacketPass, awaited, brought, call_met, least_behind}
use Rattle.switch_spec.specs.Carrying.{made_on, made_with_packet, packet_out, packets_out}
use Rattle.switch_spec.specs.History.{Made, journal_events, published}
use Rattle.switch_spec.specs.declared.calls.LaneCall.{LaneCall}
use Rattle.switch_spec.specs.declared.calls.WorkerItem.{WorkerItem}

-- ---- Nothing may follow Close

legal_behind : (c : ControlState) (xs ys : List Event) → Legal c (xs ++ ys) → Legal (applied c xs) ys
legal_behind c [] ys h = h
legal_behind c (x ∷ xs) ys h = legal_behind (apply c x) xs ys h.1

may_not : (c : ControlState) (event : Event) → c.closed ≡ true → May c event → ⊥
may_not c (events.Arbitrate by config) closed may = (let a = may.0 in absurd (cc (a, closed)))
may_not c (events.Leave caller call) closed may = (let a = may.0 in absurd (cc (a, closed)))
may_not c (events.Change by change) closed may = (let a = may.0 in absurd (cc (a, closed)))
may_not c (events.Batch by list) closed may = (let a = may.0 in absurd (cc (a, closed)))
may_not c (events.Save by config) closed may = (let a = may.0 in absurd (cc (a, closed)))
may_not c (events.Commit by content) closed may = (let a = may.0 in absurd (cc (a, closed)))
may_not c events.Close closed may = absurd (cc (may, closed))

none_behind : (c : ControlState) (rest : List Event) → c.closed ≡ true → Legal c rest → rest ≡ []
none_behind c [] closed h = refl
none_behind c (event ∷ rest) closed h = absurd (may_not c event closed h.0)

closed_at : (c : ControlState) (xs : List Event) → (applied c (xs ++ events.Close ∷ [])).closed ≡ true
closed_at c xs = ap (λ (d : ControlState). d.closed) (fold-append apply c xs (events.Close ∷ []))

-- what was told of a list that begins with all to its Close is that list
pub told_all : (start : Start) (journal : List Made) (last told : Beginning) → last.start ≡ start → last.events ≡ published start journal → Legal (opened told.start) told.events → Begins last told → Begins told last
told_all start journal last told start_is list_is legal begins =
    let more : List Event = begins.events.0 in
    let list : List Event = journal_events (opened start) journal in
    let whole : (list ++ events.Close ∷ []) ++ more ≡ told.events = ap (λ (l : List Event). l ++ more) (sym list_is) ∙ begins.events.1 in
    let from : told.start ≡ start = begins.start ∙ start_is in
    let legal_there : Legal (opened start) ((list ++ events.Close ∷ []) ++ more) =
    subst (λ (l : List Event). Legal (opened start) l) (sym whole) (subst (λ (s : Start). Legal (opened s) told.events) from legal) in
    let nothing : more ≡ [] = none_behind (applied (opened start) (list ++ events.Close ∷ [])) more (closed_at (opened start) list) (legal_behind (opened start) (list ++ events.Close ∷ []) more legal_there) in
    record {
      list = sym begins.list;
      start = sym begins.start;
      events = ([], append-nil told.events ∙ sym begins.events.1 ∙ ap (λ (l : List Event). last.events ++ l) nothing ∙ append-nil last.events);
    }

-- ---- The calls of a lane in the journal

map_calls : (made : List Signed) → map (λ (m : Made). m.call) (journal_of made) ≡ map (λ (s : Signed). s.call) made
map_calls [] = refl
map_calls (s ∷ made) = ap (λ (l : List LaneCall). s.call ∷ l) (map_calls made)

-- a controller's lane at its end
pub has_called : (list : ListName) (start : Start) (bank : BankId) (lane : ℕ) (calls : ℕ → List LaneCall) (made : List Signed) (todo : List LaneCall) (work done : Work) (journal : List Signed) (last : Beginning)
    → IsPass list start bank lane (calls lane) made todo work → todo ≡ [] → made ≡ of_lane signed_lane lane journal → last.start ≡ start → Begins done.told last → Begins work.told done.told
    → done ≡ record work { told = done.told } → HasCalled last calls (journal_of journal) lane done
has_called list start bank lane calls made todo work done journal last h ended agrees start_is told own others =
    let there : made_on lane (journal_of journal) ≡ journal_of made = on_lane lane journal ∙ ap journal_of (sym agrees) in
    let arrivals : packets_out last.start lane (journal_of journal) ≡ entering start made =
    ap (λ (s : Start). packets_out s lane (journal_of journal)) start_is ∙ ap (filter_map (packet_out start)) there in
    let least : map (λ (m : Made). m.entry.reply.steps) (made_with_packet lane (journal_of journal)) ≡ least_of made =
    ap (λ (l : List Made). map (λ (m : Made). m.entry.reply.steps) (filter (λ (m : Made). is_some m.entry.reply.packet) l)) there in
    let keeps : Keeps work done = record {
      who = ap (λ (w : Work). w.who) others;
      told = own;
      records = ap (λ (w : Work). w.records) others;
      added = ap (λ (w : Work). w.seat.added) others;
    } in
    let stays = work_stays (entering start made) (least_of made) work done h.work_is keeps in
    record {
      calls_are =
          ap (map (λ (m : Made). m.call)) there
          ∙ map_calls made
          ∙ sym (append-nil (map (λ (s : Signed). s.call) made))
          ∙ ap (λ (l : List LaneCall). map (λ (s : Signed). s.call) made ++ l) (sym ended)
          ∙ h.calls_are;
      work_is = subst (λ (l : List ℕ). IsWork (packets_out last.start lane (journal_of journal)) l done) (sym least) (subst (λ a. IsWork a (least_of made) done) (sym arrivals) stays);
      who_is = ap (λ (w : Work). w.who) others ∙ h.own.who_is;
      told = told;
    }

-- a worker's lane at its end
pub has_carried : (list : ListName) (start : Start) (bank : BankId) (lane : ℕ) (items : ℕ → List WorkerItem) (todo : List WorkerItem) (mets : List Meeting) (work done : Work) (journal : List Made) (last : Beginning)
    → IsPacketPass list start bank lane (items lane) todo mets work → todo ≡ [] → AllByRecursion (IsThrough journal) mets → Begins done.told last → Begins work.told done.told
    → done ≡ record work { told = done.told } → HasCarried last items journal lane done
has_carried list start bank lane items todo mets work done journal last h ended through told own others =
    let taken : h.taken ≡ items lane = sym (append-nil h.taken) ∙ ap (λ (l : List WorkerItem). h.taken ++ l) (sym ended) ∙ h.items_are in
    let keeps : Keeps work done = record {
      who = ap (λ (w : Work). w.who) others;
      told = own;
      records = ap (λ (w : Work). w.records) others;
      added = ap (λ (w : Work). w.seat.added) others;
    } in
    let stays = work_stays (filter_map brought h.taken) (least_behind 0 h.taken mets) work done h.work_is keeps in
    record {
      mets = mets;
      mets_are = ap (filter_map awaited) (sym taken) ∙ h.mets_are;
      through = through;
      work_is = subst (λ (l : List WorkerItem). IsWork (filter_map brought l) (least_behind 0 l mets) done) taken stays;
      who_is = ap (λ (w : Work). w.who) others ∙ h.own.who_is;
      told = told;
    }

-- what a controller's lane saw of the counters
pub has_read : (list : ListName) (start : Start) (bank : BankId) (lane : ℕ) (calls todo : List LaneCall) (made : List Signed) (work done : Work) (journal : List Signed)
    → IsPass list start bank lane calls made todo work → made ≡ of_lane signed_lane lane journal → done ≡ record work { told = done.told } → HasRead start journal lane done
has_read list start bank lane calls todo made work done journal h agrees others =
    let here : IsReading made (beside (entering start made) done.records) (noted_by done.seat) =
    subst (λ (w : Work). IsReading made (beside (entering start made) w.records) (noted_by w.seat)) (sym others) h.reading in
    subst (λ (m : List Signed). IsReading m (beside (entering start m) done.records) (noted_by done.seat)) agrees here

-- what was taken off the end of a list is confirmed
pub record AreConfirmed {X : Type 0} (P : X → Type 0) (all left : List X) : Type 0 where
  pub rest : List X
  pub all_are : all ≡ left ++ rest
  pub each : AllByRecursion P rest

-- before the first
pub none_confirmed : {X : Type 0} (P : X → Type 0) (all : List X) → AreConfirmed P all all
none_confirmed P all = record { rest = []; all_are = sym (append-nil all); each = tt }

-- one more
pub next_confirmed : {X : Type 0} (P : X → Type 0) (all left before : List X) (x : X) → AreConfirmed P all left → left ≡ before ++ x ∷ [] → P x → AreConfirmed P all before
next_confirmed P all left before x h is holds = record {
  rest = x ∷ h.rest;
  all_are = h.all_are ∙ ap (λ l. l ++ h.rest) is ∙ append_assoc before (x ∷ []) h.rest;
  each = (holds, h.each);
}

-- all of it
pub all_confirmed : {X : Type 0} (P : X → Type 0) (all left : List X) → AreConfirmed P all left → left ≡ [] → AllByRecursion P all
all_confirmed P all left h none = subst (λ l. AllByRecursion P l) (sym (h.all_are ∙ ap (λ l. l ++ h.rest) none)) h.each

-- the lane is the run's, whatever it is told of its list
pub own_stays : (list : ListName) (start : Start) (bank : BankId) (who : Who) (work done : Work) → IsOwn list start bank who work → Begins work.told done.told → done ≡ record work { told = done.told }
    → IsOwn list start bank who done
own_stays list start bank who work done own begins others = record {
  who_is = ap (λ (w : Work). w.who) others ∙ own.who_is;
  list_is = begins.list ∙ own.list_is;
  start_is = begins.start ∙ own.start_is;
  bank_is = ap (λ (w : Work). w.seat.bank) others ∙ own.bank_is;
  one_part = ap (λ (w : Work). w.seat.parts) others ∙ own.one_part;
}

-- a list without length has nothing
pub none_left : {X : Type 0} (xs : List X) → length xs ≡ 0 → xs ≡ []
none_left [] none = refl
none_left (x ∷ xs) none = absurd (omega (arith, none))
