-- A packet that is dropped sends nothing, and what leaves keeps the limit.
use Rattle.std.proofs.Common.{◌≡◌, ◌≤◌, ℕ, Bool, true, false, cond, refl, List, [], ◌∷◌, ◌++◌, length, Option, Some, None, ltb, ◌==◌, arith}
use Rattle.std.specs.Prelude.{All}
use Rattle.std.proofs.lemmas.Bool.Decides.{nat_tests}
use Rattle.std.proofs.lemmas.List.Elements.{All-nil, All-cons, All-append}
use Rattle.bm_expr.specs.Store.{Contents}
use Rattle.p4_types.specs.declared.info.HeaderField.{HeaderField}
use Rattle.p4_types.specs.declared.info.Info.{Info}
use Rattle.p4_types.specs.declared.messages.Replica.{Replica}
use Rattle.p4_types.specs.declared.records.DropReason.{DropReason}
use Rattle.p4_types.specs.declared.records.DropReason.TheVariants as reasons
use Rattle.p4_types.specs.declared.records.Fate.{Fate}
use Rattle.p4_types.specs.declared.records.Fate.TheVariants as fates
use Rattle.p4_types.specs.declared.records.HitMark.{HitMark}
use Rattle.p4_types.specs.declared.records.Output.{Output}
use Rattle.p4_types.specs.declared.records.Sample.{Sample}
use Rattle.packet_spec.specs.Laws.{DroppedSendsNothing, LeavesWithinLimit}
use Rattle.packet_spec.specs.Meaning.{Verdict, dropped, meaning, bytes_in, packet_in_of, packet_in_fields, to_controller, sent_to, sample_of, egress_spec, walked, written, left, before_egress, through_egress, chosen_port, copy_store, fate_with, joined, copies_left, mcast_grp, replicas_of, behind_sample, behind_parser}
use Rattle.packet_spec.specs.Walking.{Walk}
use Rattle.plane_spec.specs.Planes.{Plane}
use Rattle.program_spec.specs.Actions.{drop_port}
use Rattle.program_spec.specs.Checksums.{sums_verified}
use Rattle.program_spec.specs.Deparsing.{longest}
use Rattle.program_spec.specs.Parsing.{Parsed, parse}
use Rattle.program_spec.specs.Stores.{entering}
use Rattle.canon_bytes.specs.Bits.{bits}

-- a verdict in which what is dropped sends nothing, and what leaves keeps the limit
record Orderly (verdict : Verdict) : Type 0 where
  nothing : (reason : DropReason) → verdict.fate ≡ fates.Dropped reason → (verdict.outputs ≡ []) × (verdict.packet_ins ≡ [])
  within : All (λ (output : Output). length output.bytes ≤ 10240) verdict.outputs

dropped_is : (reason : DropReason) (sample : Option Sample) (hits : List HitMark) → Orderly (dropped reason sample hits)
dropped_is reason sample hits = record { nothing = λ other same. (refl, refl); within = All-nil (λ (output : Output). length output.bytes ≤ 10240) }

either : (a b : Verdict) (test : Bool) → Orderly a → (test ≡ false → Orderly b) → Orderly (cond test a b)
either a b true one other = one
either a b false one other = other refl

no_drop : (reason : DropReason) → fates.Sent ≡ fates.Dropped reason → ⊥
no_drop reason same = cc

to_controller_is : (fields : List HeaderField) (sample : Option Sample) (hits : List HitMark) (bytes : List ℕ) → Orderly (to_controller fields sample hits bytes)
to_controller_is fields sample hits bytes =
    either _ (record { fate = fates.Sent; outputs = []; packet_ins = packet_in_of fields bytes ∷ []; sample = sample; hits = hits }) (ltb (length bytes) (bytes_in fields))
    (dropped_is reasons.TooShortForController sample hits)
    (λ e. record { nothing = λ reason same. absurd (no_drop reason same); within = All-nil (λ (output : Output). length output.bytes ≤ 10240) })

within : (bytes : List ℕ) → ltb longest (length bytes) ≡ false → length bytes ≤ 10240
within bytes e = grind (arith, nat_tests)

one_output : (port : ℕ) (bytes : List ℕ) (sample : Option Sample) (hits : List HitMark) → length bytes ≤ 10240
    → Orderly (record { fate = fates.Sent; outputs = (record { port = port; bytes = bytes }) ∷ []; packet_ins = []; sample = sample; hits = hits })
one_output port bytes sample hits small = record {
  nothing = λ reason same. absurd (no_drop reason same);
  within = All-cons (λ (output : Output). length output.bytes ≤ 10240) (record { port = port; bytes = bytes }) [] small (All-nil (λ (output : Output). length output.bytes ≤ 10240));
}

sent_to_is : (info : Info) (cpu port : ℕ) (sample : Option Sample) (hits : List HitMark) (bytes : List ℕ) → Orderly (sent_to info cpu port sample hits bytes)
sent_to_is info cpu port sample hits bytes =
    either (dropped reasons.TooLong sample hits) _ (ltb longest (length bytes)) (dropped_is reasons.TooLong sample hits)
    (λ small. either (to_controller (packet_in_fields info) sample hits bytes) _ (port == cpu) (to_controller_is (packet_in_fields info) sample hits bytes)
    (λ other. one_output port bytes sample hits (within bytes small)))

left_is : (plane : Plane) (cpu port : ℕ) (rest : List ℕ) (sample : Option Sample) (walk : Walk) → Orderly (left plane cpu port rest sample walk)
left_is plane cpu port rest sample walk =
    either (dropped reasons.ByPipeline sample walk.hits) (sent_to plane.config.info cpu port sample walk.hits (written plane walk.store rest)) (egress_spec plane walk.store == drop_port)
    (dropped_is reasons.ByPipeline sample walk.hits)
    (λ e. sent_to_is plane.config.info cpu port sample walk.hits (written plane walk.store rest))

through_is : (plane : Plane) (cpu : ℕ) (rest : List ℕ) (sample : Option Sample) (store : Contents) (hits : List HitMark) → Orderly (through_egress plane cpu rest sample store hits)
through_is plane cpu rest sample store hits = left_is plane cpu (egress_spec plane store) rest sample (walked plane plane.config.program.egress (before_egress plane store) hits)

chosen_is : (plane : Plane) (cpu : ℕ) (rest : List ℕ) (sample : Option Sample) (walk : Walk) → Orderly (chosen_port plane cpu rest sample walk)
chosen_is plane cpu rest sample walk =
    either (dropped reasons.ByPipeline sample walk.hits) (through_egress plane cpu rest sample walk.store walk.hits) (egress_spec plane walk.store == drop_port)
    (dropped_is reasons.ByPipeline sample walk.hits)
    (λ e. through_is plane cpu rest sample walk.store walk.hits)

both_empty : {X : Type 0} (xs ys : List X) → xs ≡ [] → ys ≡ [] → xs ++ ys ≡ []
both_empty xs ys h k = rw h (rw k refl)

-- where copies together are dropped, each part is
joined_nothing : (copy others : Verdict) (fate : Fate) (reason : DropReason) → Orderly copy → Orderly others → others.fate ≡ fate → fate_with copy.fate fate ≡ fates.Dropped reason
    → (copy.outputs ++ others.outputs ≡ []) × (copy.packet_ins ++ others.packet_ins ≡ [])
joined_nothing copy others fates.Sent reason one more is same = absurd (no_drop reason same)
joined_nothing copy others (fates.Dropped other) reason one more is same =
    let first = one.nothing reason same in
    let rest = more.nothing other is in
    (both_empty copy.outputs others.outputs first.0 rest.0, both_empty copy.packet_ins others.packet_ins first.1 rest.1)

joined_is : (copy others : Verdict) → Orderly copy → Orderly others → Orderly (joined copy others)
joined_is copy others one more = record {
  nothing = λ reason same. joined_nothing copy others others.fate reason one more refl same;
  within = All-append (λ (output : Output). length output.bytes ≤ 10240) copy.outputs others.outputs one.within more.within;
}

copies_are : (plane : Plane) (cpu : ℕ) (rest : List ℕ) (sample : Option Sample) (store : Contents) (replicas : List Replica) (hits : List HitMark) → Orderly (copies_left plane cpu rest sample store replicas hits)
copies_are plane cpu rest sample store [] hits = dropped_is reasons.ByPipeline sample hits
copies_are plane cpu rest sample store (replica ∷ replicas) hits =
    let copy : Verdict = through_egress plane cpu rest sample (copy_store plane store replica) hits in
    joined_is copy (copies_left plane cpu rest sample store replicas copy.hits) (through_is plane cpu rest sample (copy_store plane store replica) hits)
    (copies_are plane cpu rest sample store replicas copy.hits)

sample_is : (plane : Plane) (cpu : ℕ) (rest : List ℕ) (sample : Option Sample) (walk : Walk) → Orderly (behind_sample plane cpu rest sample walk)
sample_is plane cpu rest sample walk =
    either (chosen_port plane cpu rest sample walk) (copies_left plane cpu rest sample walk.store (replicas_of plane walk.store) walk.hits) (mcast_grp plane walk.store == 0)
    (chosen_is plane cpu rest sample walk)
    (λ e. copies_are plane cpu rest sample walk.store (replicas_of plane walk.store) walk.hits)

parsed_is : (plane : Plane) (cpu : ℕ) (parsed : Parsed) → Orderly (behind_parser plane cpu parsed)
parsed_is plane cpu parsed =
    let walk : Walk = walked plane plane.config.program.ingress (sums_verified plane.config.program parsed.store) [] in
    sample_is plane cpu parsed.rest (sample_of plane walk.store walk.learned) walk

meaning_is : (plane : Option Plane) (cpu port : ℕ) (packet : List ℕ) → Orderly (meaning plane cpu port packet)
unfolding meaning
meaning_is None cpu port packet = dropped_is reasons.WithoutPipeline None []
meaning_is (Some plane) cpu port packet = parsed_is plane cpu (parse plane.config.program (bits packet) (entering plane.config.program port (length packet)))

pub dropped_sends_nothing : DroppedSendsNothing
dropped_sends_nothing plane cpu port packet reason is = (meaning_is plane cpu port packet).nothing reason is

pub leaves_within_limit : LeavesWithinLimit
leaves_within_limit plane cpu port packet = (meaning_is plane cpu port packet).within
