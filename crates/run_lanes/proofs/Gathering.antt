-- Lanes that are at their ends make a run of the tape.
use Rattle.std.proofs.Common.{◌≡◌, ℕ, zero, suc, ◌+◌, ◌<◌, ◌≤◌, ◌==◌, max, Bool, true, false, cond, eqb, List, [], ◌∷◌, ◌++◌, length, map, Option, Some, None, refl, ap, sym, subst, ◌∙◌, arith}
use Rattle.std.specs.Prelude.{slice_get}
use Rattle.std.specs.List.{AllByRecursion, AllZip, cons_option, filter, filter_map, zip}
use Rattle.std.proofs.lemmas.Bool.Decides.{nat_tests}
use Rattle.std.proofs.lemmas.List.{append-nil, map-append}
use Rattle.std.proofs.Math.Nat.{le-max_left, le-max_right, max-le}
use mathlib.Core.Logic.{dite}
use native.Mathlib.Decide.{ℕ_discrete}
use Rattle.ctl_lock.specs.Finishing.{Meeting}
use Rattle.lane_work.proofs.Lists.{each_append}
use Rattle.lane_work.proofs.Names.{each_has_its_own, others_have_none}
use Rattle.lane_work.proofs.Totals.{joined_fit}
use Rattle.lane_work.proofs.Turns.{joined_in_turn}
use Rattle.lane_work.proofs.Works.{least_is_covered, work_is_share}
use Rattle.lane_work.specs.Running.{beside, IsWork}
use Rattle.lane_work.specs.Shares.{Share, IsShare, joined, names_of, Differ, outcomes}
use Rattle.lane_work.specs.Work.{Work, steps_told}
use Rattle.p4_types.specs.declared.events.Start.{Start}
use Rattle.p4_types.specs.declared.records.Record.{Record}
use Rattle.p4_types.specs.declared.tape.TapeRecord.{TapeRecord}
use Rattle.p4_types.specs.declared.tape.TapeRecord.TheVariants.{Call, Packet, Leave, Meet}
use Rattle.p4_types.specs.declared.tape.Who.{Who}
use Rattle.p4_types.specs.declared.tape.Who.TheVariants.{Controller, Worker}
use Rattle.plane_spec.specs.Config.{Event}
use Rattle.pub_snap.specs.Beginnings.{Beginning}
use Rattle.run_lanes.specs.Gathered.{AreGathered, HasCalled, HasCarried, IsThrough, LanesMakeARun, OfEach, all_shares, caller_share, shares_of, worker_share}
use Rattle.run_lanes.specs.Packets.{awaited, brought, call_met, least_behind}
use Rattle.run_spec.specs.Report.{IsBehindMeets, call_on, item_on, packet_on}
use Rattle.run_spec.specs.Tape.{IsRecord}
use Rattle.switch_spec.specs.Carrying.{is_who, carried_on, made_on, made_with_packet, packet_out, packets_out, steps_through, Covers}
use Rattle.switch_spec.specs.Counts.{Arrival, Carried}
use Rattle.switch_spec.specs.History.{Made, published}
use Rattle.switch_spec.specs.declared.calls.LaneCall.{LaneCall}
use Rattle.switch_spec.specs.declared.calls.LaneCall.TheVariants.{Asks, Leaves}
use Rattle.switch_spec.specs.declared.calls.WorkerItem.{WorkerItem}
use Rattle.switch_spec.specs.declared.calls.WorkerItem.TheVariants.{Brings, Meets}
use Rattle.tape_lanes.specs.Lanes.{calls_in, items_in}

-- ---- Lanes by their numbers

-- a lane's work, where it stands
pub record IsFound (P : ℕ → Work → Type 0) (share : ℕ → Work → Share) (n lane : ℕ) (works : List Work) : Type 0 where
  pub work : Work
  pub holds : P lane work
  pub place : ℕ
  pub stands : slice_get (shares_of share n works) place ≡ Some (share lane work)

at_most_less : (i n : ℕ) → i < n + 1 → (i ≡ n → ⊥) → i < n
at_most_less zero zero lt ne = absurd (ne refl)
at_most_less zero (suc n) lt ne = omega arith
at_most_less (suc i) zero lt ne = absurd (omega (arith, lt))
at_most_less (suc i) (suc n) lt ne = (let r = at_most_less i n (omega (arith, lt)) (λ e. ne (ap suc e)) in omega (arith, r))

pub found : (P : ℕ → Work → Type 0) (share : ℕ → Work → Share) (n lane : ℕ) (works : List Work) → OfEach P n works → lane < n → IsFound P share n lane works
found P share zero lane works h lt = absurd (omega (arith, lt))
found P share (suc n) lane [] h lt = absurd h
found P share (suc n) lane (work ∷ works) h lt = dite (ℕ_discrete lane n)
    (λ e. subst (λ (l : ℕ). IsFound P share (suc n) l (work ∷ works)) (sym e) (record { work = work; holds = h.0; place = 0; stands = refl }))
    (λ ne. let rest = found P share n lane works h.1 (at_most_less lane n (omega (arith, lt)) ne) in
    record { work = rest.work; holds = rest.holds; place = suc rest.place; stands = rest.stands })

at_next : (x : Share) (xs : List Share) (place : ℕ) (share : Share) → slice_get xs place ≡ Some share → slice_get (x ∷ xs) (suc place) ≡ Some share
at_next x xs place share is = is

-- a place behind others
pub behind_others : (xs ys : List Share) (place : ℕ) (share : Share) → slice_get ys place ≡ Some share → slice_get (xs ++ ys) (length xs + place) ≡ Some share
behind_others [] ys place share is = subst (λ (k : ℕ). slice_get ys k ≡ Some share) (omega arith) is
behind_others (x ∷ xs) ys place share is =
    let same : suc (length xs + place) ≡ length (x ∷ xs) + place = omega arith in
    subst (λ (k : ℕ). slice_get (x ∷ (xs ++ ys)) k ≡ Some share) same (at_next x (xs ++ ys) (length xs + place) share (behind_others xs ys place share is))

before_others : (xs ys : List Share) (place : ℕ) (share : Share) → slice_get xs place ≡ Some share → slice_get (xs ++ ys) place ≡ Some share
before_others [] ys place share is = absurd (cc is)
before_others (x ∷ xs) ys zero share is = is
before_others (x ∷ xs) ys (suc place) share is = before_others xs ys place share is

-- ---- Shares

shared_by : (P : ℕ → Work → Type 0) (share : ℕ → Work → Share) (start : Start) (list : List Event) (n : ℕ) (works : List Work) → ((lane : ℕ) (work : Work) → P lane work → IsShare start list (share lane work))
    → OfEach P n works → AllByRecursion (IsShare start list) (shares_of share n works)
shared_by P share start list zero works each h = tt
shared_by P share start list (suc n) [] each h = absurd h
shared_by P share start list (suc n) (work ∷ works) each h = (each n work h.0, shared_by P share start list n works each h.1)

-- names of lanes below a number are none of a name that differs from each of them
named_else : (P : ℕ → Work → Type 0) (share : ℕ → Work → Share) (name : ℕ → Who) (other : Who) (n : ℕ) (works : List Work) → ((lane : ℕ) (work : Work) → P lane work → (share lane work).who ≡ name lane)
    → ((lane : ℕ) → lane < n → is_who other (name lane) ≡ false) → OfEach P n works → AllByRecursion (λ (w : Who). is_who other w ≡ false) (names_of (shares_of share n works))
named_else P share name other zero works named apart h = tt
named_else P share name other (suc n) [] named apart h = absurd h
named_else P share name other (suc n) (work ∷ works) named apart h =
    (ap (is_who other) (named n work h.0) ∙ apart n (omega arith), named_else P share name other n works named (λ lane lt. apart lane (omega (arith, lt))) h.1)

-- names of lanes below a number differ, where those of two numbers do
names_differ : (P : ℕ → Work → Type 0) (share : ℕ → Work → Share) (name : ℕ → Who) (n : ℕ) (works : List Work) (rest : List Who) → ((lane : ℕ) (work : Work) → P lane work → (share lane work).who ≡ name lane)
    → ((a b : ℕ) → b < a → is_who (name a) (name b) ≡ false) → ((a : ℕ) → AllByRecursion (λ (w : Who). is_who (name a) w ≡ false) rest) → Differ rest → OfEach P n works
    → Differ (names_of (shares_of share n works) ++ rest)
names_differ P share name zero works rest named apart from_rest differ h = differ
names_differ P share name (suc n) [] rest named apart from_rest differ h = absurd h
names_differ P share name (suc n) (work ∷ works) rest named apart from_rest differ h =
    let first : (share n work).who ≡ name n = named n work h.0 in (
      subst (λ (w : Who). AllByRecursion (λ (other : Who). is_who w other ≡ false) (names_of (shares_of share n works) ++ rest)) (sym first)
          (each_append (λ (other : Who). is_who (name n) other ≡ false) (names_of (shares_of share n works)) rest
          (named_else P share name (name n) n works named (λ lane lt. apart n lane lt) h.1) (from_rest n)),
      names_differ P share name n works rest named apart from_rest differ h.1,
    )

lower_differs : (a b : ℕ) → b < a → eqb a b ≡ false
lower_differs a b lt = grind (arith, nat_tests)

-- ---- The tape's lanes

no_call : (b : Bool) (call : LaneCall) (calls : List LaneCall) → b ≡ false → calls ≡ [] → cons_option (cond b (Some call) None) calls ≡ []
no_call b call calls is none = ap (λ (c : Bool). cons_option (cond c (Some call) None) calls) is ∙ none

high_calls : (lane : ℕ) (tape : List TapeRecord) → AllByRecursion IsRecord tape → 32 ≤ lane → filter_map (call_on lane) tape ≡ []
high_calls lane [] h le = refl
high_calls lane (Call other method message ∷ tape) h le =
    no_call (eqb lane other) (Asks method message) (filter_map (call_on lane) tape) (let lt = h.0.of_controller in lower_differs lane other (omega (arith, lt, le))) (high_calls lane tape h.1 le)
high_calls lane (Leave other ∷ tape) h le =
    no_call (eqb lane other) Leaves (filter_map (call_on lane) tape) (let lt = h.0.of_controller in lower_differs lane other (omega (arith, lt, le))) (high_calls lane tape h.1 le)
high_calls lane (Packet other port packet ∷ tape) h le = high_calls lane tape h.1 le
high_calls lane (Meet other controller call ∷ tape) h le = high_calls lane tape h.1 le

no_item : (b : Bool) (item : WorkerItem) (items : List WorkerItem) → b ≡ false → items ≡ [] → cons_option (cond b (Some item) None) items ≡ []
no_item b item items is none = ap (λ (c : Bool). cons_option (cond c (Some item) None) items) is ∙ none

high_items : (lane : ℕ) (tape : List TapeRecord) → AllByRecursion IsRecord tape → 16 ≤ lane → filter_map (item_on lane) tape ≡ []
high_items lane [] h le = refl
high_items lane (Call other method message ∷ tape) h le = high_items lane tape h.1 le
high_items lane (Leave other ∷ tape) h le = high_items lane tape h.1 le
high_items lane (Packet other port packet ∷ tape) h le =
    no_item (eqb lane other) (Brings port packet) (filter_map (item_on lane) tape) (let lt = h.0.of_worker in lower_differs lane other (omega (arith, lt, le))) (high_items lane tape h.1 le)
high_items lane (Meet other controller call ∷ tape) h le =
    no_item (eqb lane other) (Meets controller call) (filter_map (item_on lane) tape) (let lt = h.0.of_worker in lower_differs lane other (omega (arith, lt, le))) (high_items lane tape h.1 le)

-- ---- A worker's packets and meets

one_packet : (b : Bool) (port : ℕ) (packet : List ℕ) (items : List WorkerItem)
    → filter_map brought (cons_option (cond b (Some (Brings port packet)) None) items) ≡ cons_option (cond b (Some (port, packet)) None) (filter_map brought items)
one_packet true port packet items = refl
one_packet false port packet items = refl

one_meet : (b : Bool) (controller call : ℕ) (items : List WorkerItem) → filter_map brought (cons_option (cond b (Some (Meets controller call)) None) items) ≡ filter_map brought items
one_meet true controller call items = refl
one_meet false controller call items = refl

packets_brought : (lane : ℕ) (tape : List TapeRecord) → filter_map brought (filter_map (item_on lane) tape) ≡ filter_map (packet_on lane) tape
packets_brought lane [] = refl
packets_brought lane (Call other method message ∷ tape) = packets_brought lane tape
packets_brought lane (Leave other ∷ tape) = packets_brought lane tape
packets_brought lane (Packet other port packet ∷ tape) =
    one_packet (eqb lane other) port packet (filter_map (item_on lane) tape) ∙ ap (cons_option (cond (eqb lane other) (Some (port, packet)) None)) (packets_brought lane tape)
packets_brought lane (Meet other controller call ∷ tape) = one_meet (eqb lane other) controller call (filter_map (item_on lane) tape) ∙ packets_brought lane tape

highest : (a b c d : ℕ) → a ≤ b → c ≤ d → max a c ≤ max b d
highest a b c d le more = max-le (let x = le-max_left b d in omega (arith, le, x)) (let x = le-max_right b d in omega (arith, more, x))

behind : (journal : List Made) (m n : ℕ) (items : List WorkerItem) (mets : List Meeting) (packets : List Carried) → m ≤ n → filter_map awaited items ≡ map call_met mets → AllByRecursion (IsThrough journal) mets
    → AllZip (λ (k : ℕ) (r : Record). k ≤ r.steps) (least_behind n items mets) (outcomes packets) → IsBehindMeets journal m items packets
behind journal m n [] mets packets le names through late = tt
behind journal m n (Brings port packet ∷ items) mets [] le names through late = absurd late
behind journal m n (Brings port packet ∷ items) mets (first ∷ packets) le names through late =
    ((let a = late.0 in omega (arith, le, a)), behind journal m n items mets packets le names through late.1)
behind journal m n (Meets controller call ∷ items) [] packets le names through late = absurd (cc names)
behind journal m n (Meets controller call ∷ items) (met ∷ mets) packets le names through late =
    let same : (controller, call) ≡ call_met met = cc names in
    let rest : filter_map awaited items ≡ map call_met mets = cc names in
    let reached : steps_through controller call journal ≤ steps_told met.told =
    subst (λ (p : ℕ × ℕ). steps_through p.0 p.1 journal ≤ steps_told met.told) (sym same) through.0 in
    let higher : max m (steps_through controller call journal) ≤ max n (steps_told met.told) = highest m n (steps_through controller call journal) (steps_told met.told) le reached in
    behind journal (max m (steps_through controller call journal)) (max n (steps_told met.told)) items mets packets higher rest through.1 late

-- ---- A run

caller_shared : (start : Start) (tape : List TapeRecord) (journal : List Made) (last : Beginning) → last.start ≡ start → last.events ≡ published start journal
    → (lane : ℕ) (work : Work) → HasCalled last (calls_in tape) journal lane work → IsShare start (published start journal) (caller_share start journal lane work)
caller_shared start tape journal last start_is list_is lane work h =
    let share = work_is_share (packets_out last.start lane journal) (map (λ (made : Made). made.entry.reply.steps) (made_with_packet lane journal)) work last h.work_is h.told in
    let listed = subst (λ (l : List Event). IsShare last.start l (caller_share last.start journal lane work)) list_is share in
    subst (λ (s : Start). IsShare s (published start journal) (caller_share s journal lane work)) start_is listed

worker_shared : (start : Start) (tape : List TapeRecord) (journal : List Made) (last : Beginning) → last.start ≡ start → last.events ≡ published start journal
    → (lane : ℕ) (work : Work) → HasCarried last (items_in tape) journal lane work → IsShare start (published start journal) (worker_share (items_in tape) lane work)
worker_shared start tape journal last start_is list_is lane work h =
    let items : List WorkerItem = filter_map (item_on lane) tape in
    let share = work_is_share (filter_map brought items) (least_behind 0 items h.mets) work last h.work_is h.told in
    subst (λ (s : Start). IsShare s (published start journal) (worker_share (items_in tape) lane work)) start_is (subst (λ (l : List Event). IsShare last.start l (worker_share (items_in tape) lane work)) list_is share)

caller_named : (start : Start) (tape : List TapeRecord) (journal : List Made) (last : Beginning) (lane : ℕ) (work : Work) → HasCalled last (calls_in tape) journal lane work
    → (caller_share start journal lane work).who ≡ Controller lane
caller_named start tape journal last lane work h = h.who_is

worker_named : (tape : List TapeRecord) (journal : List Made) (last : Beginning) (lane : ℕ) (work : Work) → HasCarried last (items_in tape) journal lane work → (worker_share (items_in tape) lane work).who ≡ Worker lane
worker_named tape journal last lane work h = h.who_is

-- names of controllers' lanes alone
no_rest : (shares : List Share) → names_of shares ++ [] ≡ names_of shares
no_rest shares = append-nil (names_of shares)

-- all shares at the end of a run
pub record AreAll (start : Start) (tape : List TapeRecord) (journal : List Made) (callers workers : List Work) : Type 0 where
  pub shared : AllByRecursion (IsShare start (published start journal)) (all_shares start tape journal callers workers)
  pub differ : Differ (names_of (all_shares start tape journal callers workers))

pub are_all : (start : Start) (tape : List TapeRecord) (journal : List Made) (last : Beginning) (callers workers : List Work) → AreGathered start tape journal last callers workers → AreAll start tape journal callers workers
are_all start tape journal last callers workers h =
    let C = HasCalled last (calls_in tape) journal in
    let W = HasCarried last (items_in tape) journal in
    let ours : List Share = shares_of (caller_share start journal) 32 callers in
    let theirs : List Share = shares_of (worker_share (items_in tape)) 16 workers in
    let called = shared_by C (caller_share start journal) start (published start journal) 32 callers (caller_shared start tape journal last h.start_is h.list_is) h.called in
    let carried = shared_by W (worker_share (items_in tape)) start (published start journal) 16 workers (worker_shared start tape journal last h.start_is h.list_is) h.carried in
    let ours_differ : Differ (names_of ours) =
    subst Differ (no_rest ours) (names_differ C (caller_share start journal) (λ lane. Controller lane) 32 callers [] (caller_named start tape journal last) lower_differs (λ a. tt) tt h.called) in
    let apart : (a : ℕ) → AllByRecursion (λ (w : Who). is_who (Worker a) w ≡ false) (names_of ours) =
    λ a. named_else C (caller_share start journal) (λ lane. Controller lane) (Worker a) 32 callers (caller_named start tape journal last) (λ lane lt. refl) h.called in
    let all = names_differ W (worker_share (items_in tape)) (λ lane. Worker lane) 16 workers (names_of ours) (worker_named tape journal last) lower_differs apart ours_differ h.carried in
    record {
      shared = each_append (IsShare start (published start journal)) theirs ours carried called;
      differ = subst Differ (sym (map-append (λ (s : Share). s.who) theirs ours)) all;
    }

-- what a controller's lane carried, among all
caller_own : (start : Start) (tape : List TapeRecord) (journal : List Made) (last : Beginning) (callers workers : List Work) → AreGathered start tape journal last callers workers → (lane : ℕ) → lane < 32
    → (work : Work) × HasCalled last (calls_in tape) journal lane work
    × (carried_on (Controller lane) (joined (all_shares start tape journal callers workers)) ≡ beside (packets_out start lane journal) work.records)
caller_own start tape journal last callers workers h lane lt =
    let all = are_all start tape journal last callers workers h in
    let f = found (HasCalled last (calls_in tape) journal) (caller_share start journal) 32 lane callers h.called lt in
    let theirs : List Share = shares_of (worker_share (items_in tape)) 16 workers in
    let own = each_has_its_own start (published start journal) (all_shares start tape journal callers workers) (length theirs + f.place) (caller_share start journal lane f.work) all.shared all.differ
    (behind_others theirs (shares_of (caller_share start journal) 32 callers) f.place (caller_share start journal lane f.work) f.stands) in
    (f.work, f.holds, subst (λ (w : Who). carried_on w (joined (all_shares start tape journal callers workers)) ≡ beside (packets_out start lane journal) f.work.records) f.holds.who_is own)

worker_own : (start : Start) (tape : List TapeRecord) (journal : List Made) (last : Beginning) (callers workers : List Work) → AreGathered start tape journal last callers workers → (lane : ℕ) → lane < 16
    → (work : Work) × HasCarried last (items_in tape) journal lane work
    × (carried_on (Worker lane) (joined (all_shares start tape journal callers workers)) ≡ beside (filter_map brought (filter_map (item_on lane) tape)) work.records)
worker_own start tape journal last callers workers h lane lt =
    let all = are_all start tape journal last callers workers h in
    let f = found (HasCarried last (items_in tape) journal) (worker_share (items_in tape)) 16 lane workers h.carried lt in
    let theirs : List Share = shares_of (worker_share (items_in tape)) 16 workers in
    let own = each_has_its_own start (published start journal) (all_shares start tape journal callers workers) f.place (worker_share (items_in tape) lane f.work) all.shared all.differ
    (before_others theirs (shares_of (caller_share start journal) 32 callers) f.place (worker_share (items_in tape) lane f.work) f.stands) in
    (f.work, f.holds, subst (λ (w : Who). carried_on w (joined (all_shares start tape journal callers workers)) ≡ beside (filter_map brought (filter_map (item_on lane) tape)) f.work.records) f.holds.who_is own)

-- no lane from a number on carried anything
caller_none : (start : Start) (tape : List TapeRecord) (journal : List Made) (last : Beginning) (callers workers : List Work) → AreGathered start tape journal last callers workers → (lane : ℕ) → 32 ≤ lane
    → carried_on (Controller lane) (joined (all_shares start tape journal callers workers)) ≡ []
caller_none start tape journal last callers workers h lane le =
    let all = are_all start tape journal last callers workers h in
    let ours : List Share = shares_of (caller_share start journal) 32 callers in
    let theirs : List Share = shares_of (worker_share (items_in tape)) 16 workers in
    let a = named_else (HasCarried last (items_in tape) journal) (worker_share (items_in tape)) (λ l. Worker l) (Controller lane) 16 workers (worker_named tape journal last) (λ l lt. refl) h.carried in
    let b = named_else (HasCalled last (calls_in tape) journal) (caller_share start journal) (λ l. Controller l) (Controller lane) 32 callers (caller_named start tape journal last)
    (λ l lt. lower_differs lane l (omega (arith, lt, le))) h.called in
    others_have_none start (published start journal) (all_shares start tape journal callers workers) (Controller lane) all.shared
    (subst (AllByRecursion (λ (w : Who). is_who (Controller lane) w ≡ false)) (sym (map-append (λ (s : Share). s.who) theirs ours)) (each_append (λ (w : Who). is_who (Controller lane) w ≡ false) (names_of theirs) (names_of ours) a b))

worker_none : (start : Start) (tape : List TapeRecord) (journal : List Made) (last : Beginning) (callers workers : List Work) → AreGathered start tape journal last callers workers → (lane : ℕ) → 16 ≤ lane
    → carried_on (Worker lane) (joined (all_shares start tape journal callers workers)) ≡ []
worker_none start tape journal last callers workers h lane le =
    let all = are_all start tape journal last callers workers h in
    let ours : List Share = shares_of (caller_share start journal) 32 callers in
    let theirs : List Share = shares_of (worker_share (items_in tape)) 16 workers in
    let a = named_else (HasCarried last (items_in tape) journal) (worker_share (items_in tape)) (λ l. Worker l) (Worker lane) 16 workers (worker_named tape journal last)
    (λ l lt. lower_differs lane l (omega (arith, lt, le))) h.carried in
    let b = named_else (HasCalled last (calls_in tape) journal) (caller_share start journal) (λ l. Controller l) (Worker lane) 32 callers (caller_named start tape journal last) (λ l lt. refl) h.called in
    others_have_none start (published start journal) (all_shares start tape journal callers workers) (Worker lane) all.shared
    (subst (AllByRecursion (λ (w : Who). is_who (Worker lane) w ≡ false)) (sym (map-append (λ (s : Share). s.who) theirs ours)) (each_append (λ (w : Who). is_who (Worker lane) w ≡ false) (names_of theirs) (names_of ours) a b))

-- ---- Each lane

data Which (lane n : ℕ) : Type 0 where
  Below : (lt : lane < n) → Which lane n
  Above : (le : n ≤ lane) → Which lane n

next : (lane n : ℕ) → Which lane n → Which (suc lane) (suc n)
next lane n (Below lt) = Below (omega (arith, lt))
next lane n (Above le) = Above (omega (arith, le))

which : (lane n : ℕ) → Which lane n
which lane zero = Above (omega arith)
which zero (suc n) = Below (omega arith)
which (suc lane) (suc n) = next lane n (which lane n)

calls_by : (start : Start) (tape : List TapeRecord) (journal : List Made) (last : Beginning) (callers workers : List Work) → AreGathered start tape journal last callers workers → (lane : ℕ) → Which lane 32
    → map (λ (made : Made). made.call) (made_on lane journal) ≡ filter_map (call_on lane) tape
calls_by start tape journal last callers workers h lane (Below lt) = (caller_own start tape journal last callers workers h lane lt).1.calls_are
calls_by start tape journal last callers workers h lane (Above le) = ap (map (λ (made : Made). made.call)) (h.others lane le) ∙ sym (high_calls lane tape h.records le)

packets_by : (start : Start) (tape : List TapeRecord) (journal : List Made) (last : Beginning) (callers workers : List Work) → AreGathered start tape journal last callers workers → (lane : ℕ) → Which lane 16
    → map (λ (c : Carried). c.arrival) (carried_on (Worker lane) (joined (all_shares start tape journal callers workers))) ≡ filter_map (packet_on lane) tape
packets_by start tape journal last callers workers h lane (Below lt) =
    let own = worker_own start tape journal last callers workers h lane lt in
    ap (map (λ (c : Carried). c.arrival)) own.2 ∙ own.1.work_is.arrived ∙ packets_brought lane tape
packets_by start tape journal last callers workers h lane (Above le) =
    ap (map (λ (c : Carried). c.arrival)) (worker_none start tape journal last callers workers h lane le)
    ∙ ap (filter_map brought) (sym (high_items lane tape h.records le))
    ∙ packets_brought lane tape

start_of : (start : Start) (tape : List TapeRecord) (journal : List Made) (last : Beginning) (lane : ℕ) (work : Work) → last.start ≡ start → HasCalled last (calls_in tape) journal lane work
    → IsWork (packets_out start lane journal) (map (λ (made : Made). made.entry.reply.steps) (made_with_packet lane journal)) work
start_of start tape journal last lane work is h = subst (λ (s : Start). IsWork (packets_out s lane journal) (map (λ (made : Made). made.entry.reply.steps) (made_with_packet lane journal)) work) is h.work_is

out_by : (start : Start) (tape : List TapeRecord) (journal : List Made) (last : Beginning) (callers workers : List Work) → AreGathered start tape journal last callers workers → (lane : ℕ) → Which lane 32
    → map (λ (c : Carried). c.arrival) (carried_on (Controller lane) (joined (all_shares start tape journal callers workers))) ≡ packets_out start lane journal
out_by start tape journal last callers workers h lane (Below lt) =
    let own = caller_own start tape journal last callers workers h lane lt in
    ap (map (λ (c : Carried). c.arrival)) own.2 ∙ (start_of start tape journal last lane own.0 h.start_is own.1).arrived
out_by start tape journal last callers workers h lane (Above le) =
    ap (map (λ (c : Carried). c.arrival)) (caller_none start tape journal last callers workers h lane le) ∙ ap (filter_map (packet_out start)) (sym (h.others lane le))

covers_by : (start : Start) (tape : List TapeRecord) (journal : List Made) (last : Beginning) (callers workers : List Work) → AreGathered start tape journal last callers workers → (lane : ℕ) → Which lane 32
    → Covers lane journal (joined (all_shares start tape journal callers workers))
covers_by start tape journal last callers workers h lane (Below lt) =
    let own = caller_own start tape journal last callers workers h lane lt in
    let work = start_of start tape journal last lane own.0 h.start_is own.1 in
    let packets : List Carried = beside (packets_out start lane journal) own.0.records in
    let calls : List Made = made_with_packet lane journal in
    let late = subst (λ (rs : List Record). AllZip (λ (n : ℕ) (r : Record). n ≤ r.steps) (map (λ (made : Made). made.entry.reply.steps) calls) rs) (sym work.recorded) work.late_enough in
    let covered = least_is_covered calls packets late in
    subst (λ (cs : List Carried). AllByRecursion (λ (x : Carried × Made). x.1.entry.reply.steps ≤ x.0.outcome.steps) (zip cs calls)) (sym own.2) covered
covers_by start tape journal last callers workers h lane (Above le) =
    subst (λ (cs : List Carried). AllByRecursion (λ (x : Carried × Made). x.1.entry.reply.steps ≤ x.0.outcome.steps) (zip cs (made_with_packet lane journal)))
    (sym (caller_none start tape journal last callers workers h lane le)) tt

meets_by : (start : Start) (tape : List TapeRecord) (journal : List Made) (last : Beginning) (callers workers : List Work) → AreGathered start tape journal last callers workers → (lane : ℕ) → Which lane 16
    → IsBehindMeets journal 0 (filter_map (item_on lane) tape) (carried_on (Worker lane) (joined (all_shares start tape journal callers workers)))
meets_by start tape journal last callers workers h lane (Below lt) =
    let own = worker_own start tape journal last callers workers h lane lt in
    let items : List WorkerItem = filter_map (item_on lane) tape in
    let packets : List Carried = beside (filter_map brought items) own.0.records in
    let late = subst (λ (rs : List Record). AllZip (λ (n : ℕ) (r : Record). n ≤ r.steps) (least_behind 0 items own.1.mets) rs) (sym own.1.work_is.recorded) own.1.work_is.late_enough in
    subst (λ (cs : List Carried). IsBehindMeets journal 0 items cs) (sym own.2) (behind journal 0 0 items own.1.mets packets (omega arith) own.1.mets_are own.1.through late)
meets_by start tape journal last callers workers h lane (Above le) =
    subst (λ (items : List WorkerItem). IsBehindMeets journal 0 items (carried_on (Worker lane) (joined (all_shares start tape journal callers workers)))) (sym (high_items lane tape h.records le)) tt

-- what all lanes carried
pub all_shared : (start : Start) (tape : List TapeRecord) (journal : List Made) (last : Beginning) (callers workers : List Work) → AreGathered start tape journal last callers workers
    → AllByRecursion (IsShare start (published start journal)) (all_shares start tape journal callers workers)
all_shared start tape journal last callers workers h = (are_all start tape journal last callers workers h).shared

pub lanes_make_a_run : LanesMakeARun
lanes_make_a_run start tape journal last callers workers h =
    let all = are_all start tape journal last callers workers h in record {
      calls = λ lane. calls_by start tape journal last callers workers h lane (which lane 32);
      numbered = h.numbered;
      history = h.history;
      legal = h.legal;
      packets = λ lane. packets_by start tape journal last callers workers h lane (which lane 16);
      out = λ lane. out_by start tape journal last callers workers h lane (which lane 32);
      covers = λ lane. covers_by start tape journal last callers workers h lane (which lane 32);
      meets = λ lane. meets_by start tape journal last callers workers h lane (which lane 16);
      in_turn = joined_in_turn start (published start journal) (all_shares start tape journal callers workers) all.shared all.differ;
      fits = joined_fit start (published start journal) (all_shares start tape journal callers workers) all.shared;
    }
