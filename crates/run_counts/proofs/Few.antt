-- How many packets and calls lanes have.
use Rattle.std.proofs.Common.{◌≡◌, ℕ, suc, ◌+◌, ◌≤◌, Bool, true, false, cond, List, [], ◌∷◌, length, map, Option, Some, None, if◌then◌else◌, refl, sym, ap, ◌∙◌, arith, ◌==◌}
use Rattle.std.specs.List.{AllByRecursion, count_by, filter_map, cons_option}
use Rattle.std.proofs.lemmas.List.{length-map}
use Rattle.std.proofs.lemmas.List.Sums.{length-filter}
use Rattle.p4_types.specs.declared.events.Start.{Start}
use Rattle.p4_types.specs.declared.tape.TapeRecord.{TapeRecord}
use Rattle.p4_types.specs.declared.tape.TapeRecord.TheVariants.{Call, Packet, Leave, Meet}
use Rattle.p4_types.specs.declared.tape.Who.{Who}
use Rattle.p4_types.specs.declared.tape.Who.TheVariants.{Controller, Worker}
use Rattle.run_counts.proofs.Lanes.{fewer}
use Rattle.run_counts.proofs.Lists.{count_cons, filter_map_few}
use Rattle.run_counts.specs.Packets.{WorkersPacketsAreFew, ControllersPacketsAreFew, CallsAreFew, PacketsAreFew}
use Rattle.run_spec.specs.Report.{call_on, packet_on, calls_on, IsRun}
use Rattle.switch_spec.specs.Carrying.{is_who, made_on, carried_on, packet_out, packets_out}
use Rattle.switch_spec.specs.Counts.{Arrival, Carried}
use Rattle.switch_spec.specs.History.{Made}
use Rattle.switch_spec.specs.declared.calls.LaneCall.{LaneCall}
use Rattle.switch_spec.specs.declared.calls.LaneCall.TheVariants.{Asks, Leaves}

pub workers_packets_are_few : WorkersPacketsAreFew
workers_packets_are_few tape lane = filter_map_few (packet_on lane) tape

pub controllers_packets_are_few : ControllersPacketsAreFew
controllers_packets_are_few start journal lane = filter_map_few (packet_out start) (made_on lane journal)

pub calls_are_few : CallsAreFew
calls_are_few tape journal lane = filter_map_few (call_on lane) tape

-- ---- All lanes

-- the lane of a record of a tape that is a call or a packet
abbrev lane_of : TapeRecord → Option Who
lane_of (Call lane method message) = Some (Controller lane)
lane_of (Leave lane) = Some (Controller lane)
lane_of (Packet lane port packet) = Some (Worker lane)
lane_of (Meet lane controller call) = None

-- a record of a lane is one of those that are counted there
one_each : {Y : Type 0} (b : Bool) (y : Y) (ys : List Y) (n : ℕ) → length ys ≤ n → length (cons_option (if b then Some y else None) ys) ≤ cond b 1 0 + n
one_each true y ys n h = omega arith
one_each false y ys n h = omega arith

packets_counted : (lane : ℕ) (tape : List TapeRecord) → length (filter_map (packet_on lane) tape) ≤ count_by (is_who (Worker lane)) (filter_map lane_of tape)
packets_counted lane [] = omega arith
packets_counted lane (Call other method message ∷ tape) = omega (arith, packets_counted lane tape, count_cons (is_who (Worker lane)) (Controller other) (filter_map lane_of tape))
packets_counted lane (Leave other ∷ tape) = omega (arith, packets_counted lane tape, count_cons (is_who (Worker lane)) (Controller other) (filter_map lane_of tape))
packets_counted lane (Packet other port packet ∷ tape) =
    let more : Arrival = (port, packet) in
    omega (
      arith,
      one_each (lane == other) more (filter_map (packet_on lane) tape) _ (packets_counted lane tape),
      count_cons (is_who (Worker lane)) (Worker other) (filter_map lane_of tape),
    )
packets_counted lane (Meet other controller call ∷ tape) = packets_counted lane tape

calls_counted : (lane : ℕ) (tape : List TapeRecord) → length (filter_map (call_on lane) tape) ≤ count_by (is_who (Controller lane)) (filter_map lane_of tape)
calls_counted lane [] = omega arith
calls_counted lane (Call other method message ∷ tape) =
    omega (
      arith,
      one_each (lane == other) (Asks method message) (filter_map (call_on lane) tape) _ (calls_counted lane tape),
      count_cons (is_who (Controller lane)) (Controller other) (filter_map lane_of tape),
    )
calls_counted lane (Leave other ∷ tape) =
    omega (arith, one_each (lane == other) Leaves (filter_map (call_on lane) tape) _ (calls_counted lane tape), count_cons (is_who (Controller lane)) (Controller other) (filter_map lane_of tape))
calls_counted lane (Packet other port packet ∷ tape) = omega (arith, calls_counted lane tape, count_cons (is_who (Controller lane)) (Worker other) (filter_map lane_of tape))
calls_counted lane (Meet other controller call ∷ tape) = calls_counted lane tape

-- the lanes of packets that were carried
abbrev lanes_of : List Carried → List Who
lanes_of records = map (λ carried. carried.outcome.who) records

lanes_counted : (who : Who) (records : List Carried) → count_by (is_who who) (lanes_of records) ≡ length (carried_on who records)
lanes_counted who records = count_of_map records ∙ sym (length-filter (λ (carried : Carried). is_who who carried.outcome.who) records)
  where
    count_of_map : (xs : List Carried) → count_by (is_who who) (lanes_of xs) ≡ count_by (λ (carried : Carried). is_who who carried.outcome.who) xs
    count_of_map [] = refl
    count_of_map (x ∷ xs) =
        omega (arith, count_of_map xs, count_cons (is_who who) x.outcome.who (lanes_of xs), count_cons (λ (carried : Carried). is_who who carried.outcome.who) x xs)

lane_few : (start : Start) (tape : List TapeRecord) (journal : List Made) (records : List Carried) → IsRun start tape journal records
    → (who : Who) → count_by (is_who who) (lanes_of records) ≤ count_by (is_who who) (filter_map lane_of tape)
lane_few start tape journal records run (Worker lane) =
    omega (
      arith,
      lanes_counted (Worker lane) records,
      length-map (carried_on (Worker lane) records) (λ (carried : Carried). carried.arrival),
      ap length (run.packets lane),
      packets_counted lane tape,
    )
lane_few start tape journal records run (Controller lane) =
    omega (
      arith,
      lanes_counted (Controller lane) records,
      length-map (carried_on (Controller lane) records) (λ (carried : Carried). carried.arrival),
      ap length (run.out lane),
      controllers_packets_are_few start journal lane,
      length-map (made_on lane journal) (λ (made : Made). made.call),
      ap length (run.calls lane),
      calls_counted lane tape,
    )

pub packets_are_few : PacketsAreFew
packets_are_few start tape journal records run =
    omega (
      arith,
      length-map records (λ (carried : Carried). carried.outcome.who),
      fewer (lanes_of records) (filter_map lane_of tape) (lane_few start tape journal records run),
      filter_map_few lane_of tape,
    )
