-- How often a packet hits, and that a run is within the limits of its counters.
use Rattle.std.proofs.Common.{◌≡◌, ◌≤◌, ◌+◌, ◌*◌, ap, subst, sym, ℕ, suc, Bool, true, false, cond, List, [], ◌∷◌, length, Option, Some, None, IfSome, ltb, ◌==◌, arith}
use Rattle.std.specs.List.{All, AllByRecursion}
use Rattle.std.proofs.lemmas.List.Elements.{All-head, All-tail}
use Rattle.bm_pipeline.specs.Places.{node_count}
use Rattle.canon_bytes.specs.Bits.{bits}
use Rattle.p4_types.specs.declared.events.Start.{Start}
use Rattle.p4_types.specs.declared.messages.Replica.{Replica}
use Rattle.p4_types.specs.declared.multicast.MulticastGroup.{MulticastGroup}
use Rattle.p4_types.specs.declared.records.DropReason.TheVariants as reasons
use Rattle.p4_types.specs.declared.records.HitMark.{HitMark}
use Rattle.p4_types.specs.declared.records.Record.{Record}
use Rattle.p4_types.specs.declared.records.Sample.{Sample}
use Rattle.packet_spec.specs.Meaning.{Verdict, dropped, bytes_in, packet_in_fields, to_controller, sent_to, sample_of, egress_spec, walked, written, left, before_egress, through_egress, chosen_port, copy_store, copies_left, mcast_grp, replicas_of, behind_sample, behind_parser, meaning}
use Rattle.packet_spec.specs.Walking.{Walk}
use Rattle.pkt_worker.proofs.HitBounds.{walk_few}
use Rattle.plane_spec.proofs.FewReplicas.{few_after}
use Rattle.plane_spec.proofs.Lists.{All-weaken}
use Rattle.plane_spec.specs.Config.{Event}
use Rattle.plane_spec.specs.Multicast.{multicast_of, replicas_in}
use Rattle.plane_spec.specs.PlaneLaws.{HasFewReplicas}
use Rattle.plane_spec.specs.Planes.{Plane, after}
use Rattle.program_spec.specs.Actions.{drop_port}
use Rattle.program_spec.specs.Checksums.{sums_verified}
use Rattle.program_spec.specs.Deparsing.{longest}
use Rattle.program_spec.specs.Parsing.{Parsed, parse}
use Rattle.program_spec.specs.Stores.{entering}
use Rattle.run_counts.proofs.Few.{packets_are_few}
use Rattle.run_counts.proofs.Lists.{each_both}
use Rattle.run_counts.proofs.Short.{packets_are_short}
use Rattle.run_counts.proofs.Valid.{configs_stay_valid}
use Rattle.run_counts.specs.Hits.{HasValid, HitsAreFew, RunsAreWithin}
use Rattle.run_counts.specs.Packets.{IsShort}
use Rattle.switch_spec.specs.Carrying.{Fits}
use Rattle.switch_spec.specs.Counts.{Carried}
use Rattle.switch_spec.specs.History.{published}

-- ---- In a plane

either : (a b : Verdict) (n : ℕ) (test : Bool) → length a.hits ≤ n → length b.hits ≤ n → length (cond test a b).hits ≤ n
either a b n true one other = one
either a b n false one other = other

left_few : (plane : Plane) (cpu port : ℕ) (rest : List ℕ) (sample : Option Sample) (walk : Walk) (n : ℕ) → length walk.hits ≤ n → length (left plane cpu port rest sample walk).hits ≤ n
left_few plane cpu port rest sample walk n few =
    let bytes : List ℕ = written plane walk.store rest in
    let info = plane.config.info in
    either (dropped reasons.ByPipeline sample walk.hits) (sent_to info cpu port sample walk.hits bytes) n (egress_spec plane walk.store == drop_port) few
    (either (dropped reasons.TooLong sample walk.hits) _ n (ltb longest (length bytes)) few
    (either (to_controller (packet_in_fields info) sample walk.hits bytes) _ n (port == cpu)
    (either (dropped reasons.TooShortForController sample walk.hits) _ n (ltb (length bytes) (bytes_in (packet_in_fields info))) few few)
    few))

through_few : (plane : Plane) → HasValid plane → (cpu : ℕ) (rest : List ℕ) (sample : Option Sample) (walk : Walk) → length (through_egress plane cpu rest sample walk.store walk.hits).hits ≤ length walk.hits + 8320
through_few plane valid cpu rest sample walk =
    let start : Walk = record { store = before_egress plane walk.store; learned = None; hits = walk.hits } in
    let egress : Walk = walked plane plane.config.program.egress (before_egress plane walk.store) walk.hits in
    left_few plane cpu (egress_spec plane walk.store) rest sample egress (length walk.hits + 8320) (walk_few plane valid.program plane.config.program.egress start)

chosen_few : (plane : Plane) → HasValid plane → (cpu : ℕ) (rest : List ℕ) (sample : Option Sample) (walk : Walk) → length (chosen_port plane cpu rest sample walk).hits ≤ length walk.hits + 8320
chosen_few plane valid cpu rest sample walk =
    either (dropped reasons.ByPipeline sample walk.hits) (through_egress plane cpu rest sample walk.store walk.hits) (length walk.hits + 8320) (egress_spec plane walk.store == drop_port) (omega arith)
    (through_few plane valid cpu rest sample walk)

copies_few : (plane : Plane) → HasValid plane → (cpu : ℕ) (rest : List ℕ) (sample : Option Sample) (walk : Walk) (replicas : List Replica) (hits : List HitMark)
    → length (copies_left plane cpu rest sample walk.store replicas hits).hits ≤ length hits + length replicas * 8320
copies_few plane valid cpu rest sample walk [] hits = omega arith
copies_few plane valid cpu rest sample walk (replica ∷ replicas) hits =
    let own : Walk = record { store = copy_store plane walk.store replica; learned = None; hits = hits } in
    omega (
      arith,
      through_few plane valid cpu rest sample own,
      copies_few plane valid cpu rest sample walk replicas (through_egress plane cpu rest sample own.store hits).hits,
    )

here_few : (b : Bool) (group : MulticastGroup) (o : Option MulticastGroup) → length group.replicas ≤ 32 → length (replicas_in o) ≤ 32 → length (replicas_in (cond b (Some group) o)) ≤ 32
here_few true group o own others = own
here_few false group o own others = others

replicas_few : (id : ℕ) (groups : List MulticastGroup) → All (λ group. length group.replicas ≤ 32) groups → length (replicas_in (multicast_of id groups)) ≤ 32
replicas_few id [] few = omega arith
replicas_few id (group ∷ groups) few =
    here_few (group.id == id) group (multicast_of id groups) (All-head (λ (g : MulticastGroup). length g.replicas ≤ 32) group groups few)
    (replicas_few id groups (All-tail (λ (g : MulticastGroup). length g.replicas ≤ 32) group groups few))

sample_few : (plane : Plane) → HasValid plane → HasFewReplicas plane → (cpu : ℕ) (rest : List ℕ) (sample : Option Sample) (walk : Walk)
    → length (behind_sample plane cpu rest sample walk).hits ≤ length walk.hits + 266240
sample_few plane valid few cpu rest sample walk =
    let replicas : List Replica = replicas_of plane walk.store in
    let one = chosen_few plane valid cpu rest sample walk in
    let all = copies_few plane valid cpu rest sample walk replicas walk.hits in
    let number : length replicas ≤ 32 = replicas_few (mcast_grp plane walk.store) plane.multicast few in
    either (chosen_port plane cpu rest sample walk) (copies_left plane cpu rest sample walk.store replicas walk.hits) (length walk.hits + 266240) (mcast_grp plane walk.store == 0) (omega (arith, one))
    (omega (arith, all, number))

parsed_few : (plane : Plane) → HasValid plane → HasFewReplicas plane → (cpu : ℕ) (parsed : Parsed) → length (behind_parser plane cpu parsed).hits ≤ 274560
parsed_few plane valid few cpu parsed =
    let start : Walk = record { store = sums_verified plane.config.program parsed.store; learned = None; hits = [] } in
    let walk : Walk = walked plane plane.config.program.ingress (sums_verified plane.config.program parsed.store) [] in
    omega (arith, sample_few plane valid few cpu parsed.rest (sample_of plane walk.store walk.learned) walk, walk_few plane valid.program plane.config.program.ingress start)

pub hits_are_few : HitsAreFew
unfolding meaning
hits_are_few plane cpu port packet valid few = parsed_few plane valid few cpu (parse plane.config.program (bits packet) (entering plane.config.program port (length packet)))

-- ---- In a run

-- without a plane there is no hit
meant_few : (o : Option Plane) → IfSome o HasValid → IfSome o HasFewReplicas → (cpu port : ℕ) (packet : List ℕ) → length (meaning o cpu port packet).hits ≤ 274560
unfolding meaning
meant_few None valid few cpu port packet = omega arith
meant_few (Some plane) valid few cpu port packet = hits_are_few plane cpu port packet valid few

fitting_few : (start : Start) (list : List Event) → ((n : ℕ) → IfSome (after start list n).active HasValid) → ((n : ℕ) → IfSome (after start list n).active HasFewReplicas) → (carried : Carried) → Fits start list carried → length carried.outcome.hits ≤ 274560
fitting_few start list valid few carried fits =
    let r : Record = carried.outcome in
    omega (
      arith,
      ap (λ (outcome : Record). length outcome.hits) fits.meant,
      meant_few (after start list r.steps).active (valid r.steps) (few r.steps) (after start list r.steps).cpu carried.arrival.0 carried.arrival.1,
    )

pub runs_are_within : RunsAreWithin
runs_are_within start tape journal records run each few =
    let list : List Event = published start journal in
    let hits : AllByRecursion (λ (carried : Carried). length carried.outcome.hits ≤ 274560) records =
    All-weaken (Fits start list) (λ carried. length carried.outcome.hits ≤ 274560) (fitting_few start list (λ n. configs_stay_valid start list n run.legal) (λ n. few_after start list n run.legal)) records run.fits in
    record {
      number = omega (arith, packets_are_few start tape journal records run, few);
      each = each_both (λ carried. length carried.outcome.hits ≤ 274560) (λ carried. IsShort carried.arrival) records hits (packets_are_short start tape journal records run each);
    }
