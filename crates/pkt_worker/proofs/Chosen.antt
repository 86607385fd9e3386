-- What becomes of a packet behind ingress.
use Rattle.std.proofs.Common.{◌≡◌, ◌∙◌, ap, sym, ℕ, Bool, true, false, cond, nat_lt, refl, List, [], ◌∷◌, ◌==◌, length, Option, arith}
use Rattle.std.proofs.lemmas.Bool.Decides.{nat_tests}
use Rattle.bm_expr.specs.Store.{Contents}
use Rattle.p4_types.specs.declared.info.HeaderField.{HeaderField}
use Rattle.p4_types.specs.declared.info.Info.{Info}
use Rattle.p4_types.specs.declared.records.DropReason.TheVariants as reasons
use Rattle.p4_types.specs.declared.records.Fate.TheVariants as fates
use Rattle.p4_types.specs.declared.records.HitMark.{HitMark}
use Rattle.p4_types.specs.declared.records.Sample.{Sample}
use Rattle.packet_spec.specs.Meaning.{Verdict, dropped, bytes_in, packet_in_of, packet_in_fields, to_controller, sent_to, egress_spec, walked, written, left, before_egress, through_egress, chosen_port, behind_ingress, behind_parser}
use Rattle.packet_spec.specs.Walking.{Walk}
use Rattle.plane_spec.specs.Planes.{Plane}
use Rattle.program_spec.specs.Actions.{drop_port}
use Rattle.program_spec.specs.Checksums.{sums_verified}
use Rattle.program_spec.specs.Deparsing.{longest}
use Rattle.program_spec.specs.Parsing.{Parsed}

other : (a b : Verdict) (test : Bool) → test ≡ false → cond test a b ≡ b
other a b true e = absurd cc
other a b false e = refl

not_same : (a b : ℕ) → (a ≡ b → ⊥) → (a == b) ≡ false
not_same a b apart = grind (arith, nat_tests)

-- a verdict has this sample and these hits
pub record Keeps (sample : Option Sample) (hits : List HitMark) (verdict : Verdict) : Type 0 where
  pub sample_is : verdict.sample ≡ sample
  pub hits_are : verdict.hits ≡ hits

both_keep : (sample : Option Sample) (hits : List HitMark) (a b : Verdict) (test : Bool) → Keeps sample hits a → Keeps sample hits b → Keeps sample hits (cond test a b)
both_keep sample hits a b true one other = one
both_keep sample hits a b false one other = other

kept : (sample : Option Sample) (hits : List HitMark) (verdict : Verdict) → verdict.sample ≡ sample → verdict.hits ≡ hits → Keeps sample hits verdict
kept sample hits verdict sample_is hits_are = record { sample_is = sample_is; hits_are = hits_are }

told_keeps : (fields : List HeaderField) (sample : Option Sample) (hits : List HitMark) (bytes : List ℕ) → Keeps sample hits (to_controller fields sample hits bytes)
told_keeps fields sample hits bytes =
    let short : Verdict = dropped reasons.TooShortForController sample hits in
    let told : Verdict = record { fate = fates.Sent; outputs = []; packet_ins = packet_in_of fields bytes ∷ []; sample = sample; hits = hits } in
    both_keep sample hits short told (nat_lt (length bytes) (bytes_in fields)) (kept sample hits short refl refl) (kept sample hits told refl refl)

sent_keeps : (info : Info) (cpu port : ℕ) (sample : Option Sample) (hits : List HitMark) (bytes : List ℕ) → Keeps sample hits (sent_to info cpu port sample hits bytes)
sent_keeps info cpu port sample hits bytes =
    let long : Verdict = dropped reasons.TooLong sample hits in
    let told : Verdict = to_controller (packet_in_fields info) sample hits bytes in
    let sent : Verdict = record { fate = fates.Sent; outputs = (record { port = port; bytes = bytes }) ∷ []; packet_ins = []; sample = sample; hits = hits } in
    both_keep sample hits long (cond (port == cpu) told sent) (nat_lt longest (length bytes)) (kept sample hits long refl refl)
    (both_keep sample hits told sent (port == cpu) (told_keeps (packet_in_fields info) sample hits bytes) (kept sample hits sent refl refl))

-- a packet keeps behind egress its sample and the hits of its walk
pub left_keeps : (plane : Plane) (cpu port : ℕ) (rest : List ℕ) (sample : Option Sample) (walk : Walk) → Keeps sample walk.hits (left plane cpu port rest sample walk)
left_keeps plane cpu port rest sample walk =
    let gone : Verdict = dropped reasons.ByPipeline sample walk.hits in
    both_keep sample walk.hits gone (sent_to plane.config.info cpu port sample walk.hits (written plane walk.store rest)) (egress_spec plane walk.store == drop_port)
    (kept sample walk.hits gone refl refl) (sent_keeps plane.config.info cpu port sample walk.hits (written plane walk.store rest))

-- a packet that goes through egress leaves at the port that was chosen
pub goes_through : (plane : Plane) (cpu port : ℕ) (rest : List ℕ) (sample : Option Sample) (store : Contents) (hits : List HitMark) (egress : Walk) → port ≡ egress_spec plane store
    → egress ≡ walked plane plane.config.program.egress (before_egress plane store) hits → left plane cpu port rest sample egress ≡ through_egress plane cpu rest sample store hits
goes_through plane cpu port rest sample store hits egress port_is egress_is =
    let end : Walk = walked plane plane.config.program.egress (before_egress plane store) hits in
    ap (λ (w : Walk). left plane cpu port rest sample w) egress_is ∙ ap (λ p. left plane cpu p rest sample end) port_is

-- a packet that ingress does not drop goes through egress
pub not_dropped : (plane : Plane) (cpu port : ℕ) (rest : List ℕ) (sample : Option Sample) (walk : Walk) → port ≡ egress_spec plane walk.store → (port ≡ drop_port → ⊥)
    → through_egress plane cpu rest sample walk.store walk.hits ≡ chosen_port plane cpu rest sample walk
not_dropped plane cpu port rest sample walk port_is sent =
    let kept : (egress_spec plane walk.store == drop_port) ≡ false = ap (λ p. p == drop_port) (sym port_is) ∙ not_same port drop_port sent in
    sym (other (dropped reasons.ByPipeline sample walk.hits) (through_egress plane cpu rest sample walk.store walk.hits) (egress_spec plane walk.store == drop_port) kept)

-- a packet behind the parser goes through ingress
pub goes_in : (plane : Plane) (cpu : ℕ) (parsed : Parsed) (store : Contents) (rest : List ℕ) (walk : Walk) → store ≡ parsed.store → rest ≡ parsed.rest
    → walk ≡ walked plane plane.config.program.ingress (sums_verified plane.config.program store) [] → behind_ingress plane cpu rest walk ≡ behind_parser plane cpu parsed
goes_in plane cpu parsed store rest walk store_is rest_is walk_is =
    let ingress : Contents → Walk = λ s. walked plane plane.config.program.ingress (sums_verified plane.config.program s) [] in
    ap (λ (w : Walk). behind_ingress plane cpu rest w) (walk_is ∙ ap ingress store_is)
    ∙ ap (λ (r : List ℕ). behind_ingress plane cpu r (ingress parsed.store)) rest_is
