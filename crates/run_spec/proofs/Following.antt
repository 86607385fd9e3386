-- A run that follows the tape has each lane's calls and packets, and each packet that a call makes enter.
use Rattle.std.proofs.Common.{◌≡◌, ℕ, ◌≤◌, Bool, true, false, List, [], ◌∷◌, map, filter, refl, ap, ◌∙◌, sym, subst, cond, Option, Some, None, option_map, is_some, arith}
use Rattle.std.specs.Prelude.{◌==◌, if◌then◌else◌}
use Rattle.std.specs.List.{AllByRecursion, filter_map, cons_option, zip}
use Rattle.p4_types.specs.declared.tape.TapeRecord.{TapeRecord}
use Rattle.p4_types.specs.declared.tape.TapeRecord.TheVariants.{Call, Packet, Leave, Meet}
use Rattle.p4_types.specs.declared.tape.Who.{Who}
use Rattle.p4_types.specs.declared.tape.Who.TheVariants.{Controller, Worker}
use Rattle.p4_types.specs.declared.events.Start.{Start}
use Rattle.switch_spec.specs.declared.calls.LaneCall.{LaneCall}
use Rattle.switch_spec.specs.declared.calls.LaneCall.TheVariants.{Asks, Leaves}
use Rattle.switch_spec.specs.History.{Made}
use Rattle.switch_spec.specs.Counts.{Figures, Arrival, Carried, counted}
use Rattle.switch_spec.specs.Carrying.{made_on, made_with_packet, carried_on, from_cpu, packet_out, packets_out, Covers, is_who}
use Rattle.run_spec.specs.Report.{carried_after, figures_out, call_on, packet_on, IsFollowed, Lockstep}

-- one more at the front, on both sides, where the lanes are tested alike
first_call : (b : Bool) (made : Made) (journal : List Made) (call : LaneCall) (rest : List LaneCall) → made.call ≡ call → map (λ m. m.call) journal ≡ rest
    → map (λ m. m.call) (cond b (made ∷ journal) journal) ≡ cons_option (if b then Some call else None) rest
first_call true made journal call rest is same = ap (λ c. c ∷ map (λ m. m.call) journal) is ∙ ap (λ r. call ∷ r) same
first_call false made journal call rest is same = same

pub calls_follow : (start : Start) (lane n : ℕ) (g : Figures) (tape : List TapeRecord) (journal : List Made) (records : List Carried) → Lockstep start n g tape journal records
    → map (λ made. made.call) (made_on lane journal) ≡ filter_map (call_on lane) tape
calls_follow start lane n g [] journal records h = ap (λ j. map (λ made. made.call) (made_on lane j)) h.0
calls_follow start lane n g (Call other method message ∷ tape) [] records h = absurd h
calls_follow start lane n g (Call other method message ∷ tape) (made ∷ journal) records h =
    first_call (lane == made.entry.lane) made (made_on lane journal) _ _ h.0.call_is (calls_follow start lane made.entry.reply.steps (figures_out (packet_out start made) g records) tape journal _ h.1)
    ∙ ap (λ l. cons_option (if lane == l then Some (Asks method message) else None) (filter_map (call_on lane) tape)) h.0.lane_is
calls_follow start lane n g (Leave other ∷ tape) [] records h = absurd h
calls_follow start lane n g (Leave other ∷ tape) (made ∷ journal) records h =
    first_call (lane == made.entry.lane) made (made_on lane journal) _ _ h.0.call_is (calls_follow start lane made.entry.reply.steps (figures_out (packet_out start made) g records) tape journal _ h.1)
    ∙ ap (λ l. cons_option (if lane == l then Some Leaves else None) (filter_map (call_on lane) tape)) h.0.lane_is
calls_follow start lane n g (Packet other port packet ∷ tape) journal [] h = absurd h
calls_follow start lane n g (Packet other port packet ∷ tape) journal (carried ∷ records) h = calls_follow start lane n (counted g carried) tape journal records h.3
calls_follow start lane n g (Meet other controller call ∷ tape) journal records h = calls_follow start lane n g tape journal records h

first_packet : (b : Bool) (carried : Carried) (records : List Carried) (arrival : Arrival) (rest : List Arrival) → carried.arrival ≡ arrival
    → map (λ c. c.arrival) records ≡ rest → map (λ c. c.arrival) (cond b (carried ∷ records) records) ≡ cons_option (if b then Some arrival else None) rest
first_packet true carried records arrival rest is same = ap (λ a. a ∷ map (λ c. c.arrival) records) is ∙ ap (λ r. arrival ∷ r) same
first_packet false carried records arrival rest is same = same

-- the records of a lane, by whose the first one is
pub on_by : (who first : Who) (carried : Carried) (records : List Carried) → carried.outcome.who ≡ first
    → carried_on who (carried ∷ records) ≡ cond (is_who who first) (carried ∷ carried_on who records) (carried_on who records)
on_by who first carried records is = ap (λ w. cond (is_who who w) (carried ∷ carried_on who records) (carried_on who records)) is

-- ---- Packets of workers

-- a packet that a call makes enter is no worker's
pub no_worker : (lane : ℕ) (o : Option Arrival) (made : Made) (records : List Carried) → IsFollowed o made records → carried_on (Worker lane) records ≡ carried_on (Worker lane) (carried_after o records)
no_worker lane None made records h = refl
no_worker lane (Some arrival) made [] h = absurd h
no_worker lane (Some arrival) made (first ∷ records) h = on_by (Worker lane) (Controller made.entry.lane) first records h.0

behind_call : (start : Start) (lane : ℕ) (made : Made) (records : List Carried) (rest : List Arrival) → IsFollowed (packet_out start made) made records
    → map (λ carried. carried.arrival) (carried_on (Worker lane) (carried_after (packet_out start made) records)) ≡ rest → map (λ carried. carried.arrival) (carried_on (Worker lane) records) ≡ rest
behind_call start lane made records rest h same = ap (map (λ carried. carried.arrival)) (no_worker lane (packet_out start made) made records h) ∙ same

pub packets_follow : (start : Start) (lane n : ℕ) (g : Figures) (tape : List TapeRecord) (journal : List Made) (records : List Carried) → Lockstep start n g tape journal records
    → map (λ carried. carried.arrival) (carried_on (Worker lane) records) ≡ filter_map (packet_on lane) tape
packets_follow start lane n g [] journal records h = ap (λ r. map (λ carried. carried.arrival) (carried_on (Worker lane) r)) h.1
packets_follow start lane n g (Call other method message ∷ tape) [] records h = absurd h
packets_follow start lane n g (Call other method message ∷ tape) (made ∷ journal) records h = behind_call start lane made records _ h.0.followed (packets_follow start lane made.entry.reply.steps (figures_out (packet_out start made) g records) tape journal _ h.1)
packets_follow start lane n g (Leave other ∷ tape) [] records h = absurd h
packets_follow start lane n g (Leave other ∷ tape) (made ∷ journal) records h = behind_call start lane made records _ h.0.followed (packets_follow start lane made.entry.reply.steps (figures_out (packet_out start made) g records) tape journal _ h.1)
packets_follow start lane n g (Packet other port packet ∷ tape) journal [] h = absurd h
packets_follow start lane n g (Packet other port packet ∷ tape) journal (carried ∷ records) h =
    first_packet (is_who (Worker lane) carried.outcome.who) carried (carried_on (Worker lane) records) _ _ h.1 (packets_follow start lane n (counted g carried) tape journal records h.3)
    ∙ ap (λ w. cons_option (if is_who (Worker lane) w then Some (port, packet) else None) (filter_map (packet_on lane) tape)) h.0
packets_follow start lane n g (Meet other controller call ∷ tape) journal records h = packets_follow start lane n g tape journal records h

-- ---- Packets that calls make enter

none_either : (b : Bool) (rest : List Arrival) → rest ≡ cons_option (if b then None else None) rest
none_either true rest = refl
none_either false rest = refl

-- the packets of a controller's lane, with that of a call
with_out : (lane : ℕ) (o : Option Arrival) (made : Made) (records : List Carried) → IsFollowed o made records
    → map (λ c. c.arrival) (carried_on (Controller lane) records) ≡ cons_option (if lane == made.entry.lane then o else None) (map (λ c. c.arrival) (carried_on (Controller lane) (carried_after o records)))
with_out lane None made records h = none_either (lane == made.entry.lane) _
with_out lane (Some arrival) made [] h = absurd h
with_out lane (Some arrival) made (first ∷ records) h =
    ap (map (λ c. c.arrival)) (on_by (Controller lane) (Controller made.entry.lane) first records h.0)
    ∙ first_packet (lane == made.entry.lane) first (carried_on (Controller lane) records) arrival _ h.1 refl

out_by : (start : Start) (b : Bool) (made : Made) (journal : List Made)
    → filter_map (packet_out start) (cond b (made ∷ journal) journal) ≡ cons_option (if b then packet_out start made else None) (filter_map (packet_out start) journal)
out_by start true made journal = refl
out_by start false made journal = refl

out_of_call : (start : Start) (lane : ℕ) (made : Made) (journal : List Made) (records : List Carried) → IsFollowed (packet_out start made) made records
    → map (λ c. c.arrival) (carried_on (Controller lane) (carried_after (packet_out start made) records)) ≡ packets_out start lane journal
    → map (λ c. c.arrival) (carried_on (Controller lane) records) ≡ packets_out start lane (made ∷ journal)
out_of_call start lane made journal records h same =
    with_out lane (packet_out start made) made records h
    ∙ ap (cons_option (if lane == made.entry.lane then packet_out start made else None)) same
    ∙ sym (out_by start (lane == made.entry.lane) made (made_on lane journal))

pub out_follows : (start : Start) (lane n : ℕ) (g : Figures) (tape : List TapeRecord) (journal : List Made) (records : List Carried) → Lockstep start n g tape journal records
    → map (λ c. c.arrival) (carried_on (Controller lane) records) ≡ packets_out start lane journal
out_follows start lane n g [] journal records h = ap (λ r. map (λ c. c.arrival) (carried_on (Controller lane) r)) h.1 ∙ sym (ap (packets_out start lane) h.0)
out_follows start lane n g (Call other method message ∷ tape) [] records h = absurd h
out_follows start lane n g (Call other method message ∷ tape) (made ∷ journal) records h = out_of_call start lane made journal records h.0.followed (out_follows start lane made.entry.reply.steps (figures_out (packet_out start made) g records) tape journal _ h.1)
out_follows start lane n g (Leave other ∷ tape) [] records h = absurd h
out_follows start lane n g (Leave other ∷ tape) (made ∷ journal) records h = out_of_call start lane made journal records h.0.followed (out_follows start lane made.entry.reply.steps (figures_out (packet_out start made) g records) tape journal _ h.1)
out_follows start lane n g (Packet other port packet ∷ tape) journal [] h = absurd h
out_follows start lane n g (Packet other port packet ∷ tape) journal (carried ∷ records) h =
    ap (map (λ c. c.arrival)) (on_by (Controller lane) (Worker other) carried records h.0) ∙ out_follows start lane n (counted g carried) tape journal records h.3
out_follows start lane n g (Meet other controller call ∷ tape) journal records h = out_follows start lane n g tape journal records h

-- ---- Each such packet is after the steps through its call

-- a call that makes a packet enter
abbrev makes : Made → Bool
makes made = is_some made.entry.reply.packet

passed_over : (b : Bool) (made : Made) (journal : List Made) → makes made ≡ false → filter makes (cond b (made ∷ journal) journal) ≡ filter makes journal
passed_over true made journal h = ap (λ c. cond c (made ∷ filter makes journal) (filter makes journal)) h
passed_over false made journal h = refl

kept_in : (b : Bool) (made : Made) (journal : List Made) → makes made ≡ true → filter makes (cond b (made ∷ journal) journal) ≡ cond b (made ∷ filter makes journal) (filter makes journal)
kept_in true made journal h = ap (λ c. cond c (made ∷ filter makes journal) (filter makes journal)) h
kept_in false made journal h = refl

none_made : (start : Start) (p : Option (List ℕ)) → option_map (from_cpu start) p ≡ None → is_some p ≡ false
none_made start None h = refl
none_made start (Some packet) h = absurd (cc)

some_made : (start : Start) (p : Option (List ℕ)) (arrival : Arrival) → option_map (from_cpu start) p ≡ Some arrival → is_some p ≡ true
some_made start None arrival h = absurd (cc)
some_made start (Some packet) arrival h = refl

-- each of these packets is after the steps through the call beside it
abbrev EachAfter : List Carried → List Made → Type 0
EachAfter records journal = AllByRecursion (λ x. x.1.entry.reply.steps ≤ x.0.outcome.steps) (zip records journal)

either_after : (b : Bool) (first : Carried) (made : Made) (records : List Carried) (journal : List Made) → made.entry.reply.steps ≤ first.outcome.steps → EachAfter records journal
    → EachAfter (cond b (first ∷ records) records) (cond b (made ∷ journal) journal)
either_after true first made records journal h rest = (h, rest)
either_after false first made records journal h rest = rest

covers_call : (start : Start) (lane : ℕ) (o : Option Arrival) (made : Made) (journal : List Made) (records : List Carried) → packet_out start made ≡ o → IsFollowed o made records
    → Covers lane journal (carried_after o records) → Covers lane (made ∷ journal) records
covers_call start lane None made journal records is h rest =
    let P : List Made → Type 0 = λ calls. EachAfter (carried_on (Controller lane) records) calls in
    subst P (sym (passed_over (lane == made.entry.lane) made (made_on lane journal) (none_made start made.entry.reply.packet is))) rest
covers_call start lane (Some arrival) made journal [] is h rest = absurd h
covers_call start lane (Some arrival) made journal (first ∷ records) is h rest =
    let b = lane == made.entry.lane in
    let steps : made.entry.reply.steps ≤ first.outcome.steps = omega (arith, h.2) in
    let both = either_after b first made (carried_on (Controller lane) records) (made_with_packet lane journal) steps rest in
    let P : List Made → Type 0 = λ calls. EachAfter (cond b (first ∷ carried_on (Controller lane) records) (carried_on (Controller lane) records)) calls in
    let Q : List Carried → Type 0 = λ packets. EachAfter packets (made_with_packet lane (made ∷ journal)) in
    subst Q (sym (on_by (Controller lane) (Controller made.entry.lane) first records h.0))
    (subst P (sym (kept_in b made (made_on lane journal) (some_made start made.entry.reply.packet arrival is))) both)

pub covers_follow : (start : Start) (lane n : ℕ) (g : Figures) (tape : List TapeRecord) (journal : List Made) (records : List Carried) → Lockstep start n g tape journal records → Covers lane journal records
covers_follow start lane n g [] journal records h = let P : List Carried → Type 0 = λ r. Covers lane journal r in subst P (sym h.1) tt
covers_follow start lane n g (Call other method message ∷ tape) [] records h = absurd h
covers_follow start lane n g (Call other method message ∷ tape) (made ∷ journal) records h =
    covers_call start lane (packet_out start made) made journal records refl h.0.followed (covers_follow start lane made.entry.reply.steps (figures_out (packet_out start made) g records) tape journal _ h.1)
covers_follow start lane n g (Leave other ∷ tape) [] records h = absurd h
covers_follow start lane n g (Leave other ∷ tape) (made ∷ journal) records h =
    covers_call start lane (packet_out start made) made journal records refl h.0.followed (covers_follow start lane made.entry.reply.steps (figures_out (packet_out start made) g records) tape journal _ h.1)
covers_follow start lane n g (Packet other port packet ∷ tape) journal [] h = absurd h
covers_follow start lane n g (Packet other port packet ∷ tape) journal (carried ∷ records) h =
    let P : List Carried → Type 0 = λ packets. EachAfter packets (made_with_packet lane journal) in
    subst P (sym (on_by (Controller lane) (Worker other) carried records h.0)) (covers_follow start lane n (counted g carried) tape journal records h.3)
covers_follow start lane n g (Meet other controller call ∷ tape) journal records h = covers_follow start lane n g tape journal records h
