-- The packets of a run are short.
use Rattle.std.proofs.Common.{◌≡◌, ℕ, ◌+◌, ◌≤◌, Bool, true, false, cond, List, [], ◌∷◌, length, map, Option, Some, None, IfSome, option_map, ◌==◌, if◌then◌else◌, refl, sym, subst}
use Rattle.std.specs.List.{AllByRecursion, filter_map}
use Rattle.p4_types.specs.declared.events.Start.{Start}
use Rattle.p4_types.specs.declared.journal.Entry.{Entry}
use Rattle.p4_types.specs.declared.tape.TapeRecord.{TapeRecord}
use Rattle.p4_types.specs.declared.tape.TapeRecord.TheVariants.{Call, Packet, Leave, Meet}
use Rattle.p4_types.specs.declared.tape.Who.{Who}
use Rattle.p4_types.specs.declared.tape.Who.TheVariants.{Controller, Worker}
use Rattle.plane_spec.proofs.Lists.{All-filter}
use Rattle.plane_spec.specs.Planes.{ControlState, opened, applied}
use Rattle.run_counts.proofs.Lanes.{is_who_self}
use Rattle.run_counts.proofs.Lists.{each_filter_map, each_of_map}
use Rattle.run_counts.specs.Packets.{IsShort, WorkersPacketsAreShort, ControllersPacketsAreShort, PacketsAreShort}
use Rattle.run_spec.specs.Report.{packet_on, IsRun}
use Rattle.run_spec.specs.Tape.{IsRecord}
use Rattle.switch_spec.proofs.Answers.{answer_sound}
use Rattle.switch_spec.specs.Carrying.{is_who, from_cpu, made_on, carried_on, packet_out, packets_out}
use Rattle.switch_spec.specs.Counts.{Arrival, Carried}
use Rattle.switch_spec.specs.History.{Made, History, own_events, answered, refused_for_memory, is_refused_for_memory, expected}

-- ---- Of a worker

one_short : (b : Bool) (arrival : Arrival) → IsShort arrival → IfSome (if b then Some arrival else None) IsShort
one_short true arrival h = h
one_short false arrival h = tt

item_short : (lane : ℕ) (item : TapeRecord) → IsRecord item → IfSome (packet_on lane item) IsShort
item_short lane (Call other method message) h = tt
item_short lane (Leave other) h = tt
item_short lane (Packet other port packet) h = one_short (lane == other) (port, packet) h.size
item_short lane (Meet other controller call) h = tt

pub workers_packets_are_short : WorkersPacketsAreShort
workers_packets_are_short tape lane h = each_filter_map IsRecord IsShort (packet_on lane) (item_short lane) tape h

-- ---- Of a controller

-- the packet that a call makes enter is short
abbrev HasShort : Entry → Type 0
HasShort entry = IfSome entry.reply.packet (λ packet. length packet ≤ 9216)

entry_short : (c : ControlState) (n : ℕ) (made : Made) (b : Bool)
    → HasShort (if b then refused_for_memory n made.entry.lane made.entry.call else answered c made.figures n made.entry.lane made.entry.call made.call)
entry_short c n made true = tt
entry_short c n made false = (answer_sound c made.figures made.entry.lane made.entry.call made.call).short_packet

entries_short : (c : ControlState) (n : ℕ) (journal : List Made) → History c n journal → AllByRecursion (λ made. HasShort made.entry) journal
entries_short c n [] h = tt
entries_short c n (made ∷ journal) h = (
  subst HasShort (sym h.0) (entry_short c n made (is_refused_for_memory made)),
  entries_short (applied c (own_events c made)) (n + length made.entry.steps) journal h.1,
)

enters_short : (start : Start) (o : Option (List ℕ)) → IfSome o (λ packet. length packet ≤ 9216) → IfSome (option_map (from_cpu start) o) IsShort
enters_short start None h = tt
enters_short start (Some packet) h = h

pub controllers_packets_are_short : ControllersPacketsAreShort
controllers_packets_are_short start journal lane h =
    each_filter_map (λ made. HasShort made.entry) IsShort (packet_out start) (λ made short. enters_short start made.entry.reply.packet short) (made_on lane journal)
    (All-filter (λ made. HasShort made.entry) (λ made. lane == made.entry.lane) journal (entries_short (opened start) 0 journal h))

-- ---- Of all lanes

first_of : (P : Carried → Type 0) (b : Bool) (first : Carried) (rest : List Carried) → b ≡ true → AllByRecursion P (cond b (first ∷ rest) rest) → P first
first_of P true first rest is h = h.0
first_of P false first rest is h = absurd (cc)

rest_of : (P : Carried → Type 0) (b : Bool) (first : Carried) (rest : List Carried) → AllByRecursion P (cond b (first ∷ rest) rest) → AllByRecursion P rest
rest_of P true first rest h = h.1
rest_of P false first rest h = h

-- what is told of each lane's packets is told of all
each_by_lane : (P : Carried → Type 0) (records : List Carried) → ((who : Who) → AllByRecursion P (carried_on who records)) → AllByRecursion P records
each_by_lane P [] h = tt
each_by_lane P (first ∷ records) h = (
  first_of P (is_who first.outcome.who first.outcome.who) first (carried_on first.outcome.who records) (is_who_self first.outcome.who) (h first.outcome.who),
  each_by_lane P records (λ who. rest_of P (is_who who first.outcome.who) first (carried_on who records) (h who)),
)

-- the arrivals of a lane's packets are these, which are short
lane_short : (who : Who) (records : List Carried) (arrivals : List Arrival) → map (λ carried. carried.arrival) (carried_on who records) ≡ arrivals → AllByRecursion IsShort arrivals
    → AllByRecursion (λ carried. IsShort carried.arrival) (carried_on who records)
lane_short who records arrivals is h = each_of_map IsShort (λ (carried : Carried). carried.arrival) (carried_on who records) (subst (AllByRecursion IsShort) (sym is) h)

lanes_short : (start : Start) (tape : List TapeRecord) (journal : List Made) (records : List Carried) → IsRun start tape journal records → AllByRecursion IsRecord tape
    → (who : Who) → AllByRecursion (λ carried. IsShort carried.arrival) (carried_on who records)
lanes_short start tape journal records run h (Worker lane) =
    lane_short (Worker lane) records (filter_map (packet_on lane) tape) (run.packets lane) (workers_packets_are_short tape lane h)
lanes_short start tape journal records run h (Controller lane) =
    lane_short (Controller lane) records (packets_out start lane journal) (run.out lane) (controllers_packets_are_short start journal lane run.history)

pub packets_are_short : PacketsAreShort
packets_are_short start tape journal records run h = each_by_lane (λ carried. IsShort carried.arrival) records (lanes_short start tape journal records run h)
