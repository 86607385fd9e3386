-- What a verdict makes leave, put one after another.
use Rattle.std.proofs.Common.{◌≡◌, ◌+◌, ◌≤◌, ℕ, zero, suc, refl, List, [], ◌∷◌, ◌++◌, length, take, slice_get, Option, Some, None, arith, map, ap, sym, subst, ◌∙◌, append-nil}
use Rattle.std.proofs.lemmas.List.{length-map, map-append, take-map}
use Rattle.std.proofs.lemmas.Option.{slice_get_within}
use Rattle.p4_types.specs.declared.records.Output.{Output}
use Rattle.packet_spec.specs.Meaning.{Verdict}
use Rattle.serve_run.specs.Carrying.{Bound, departure, leaving}
use Rattle.serve_run.proofs.Carrying.{kept_adds_none}
use Rattle.sw_edge.proofs.ToldLaws.{Appends-trans}
use Rattle.sw_edge.specs.Answers.{Puts}
use Rattle.sw_edge.specs.Told.{Appends, AppendsPrefix, Keeps}
use Rattle.sw_edge.specs.declared.answers.Sent.{Sent}
use Rattle.sw_edge.specs.declared.answers.Sent.TheVariants as sents

-- those before a place
abbrev pub put_before : ℕ → Verdict → List Bound
put_before place verdict = map departure (take place verdict.outputs)

one_more : (outputs : List Output) (place : ℕ) (output : Output) → Some output ≡ slice_get outputs place → take (suc place) outputs ≡ take place outputs ++ output ∷ []
one_more [] place output is = absurd cc
one_more (first ∷ rest) zero output is = cc
one_more (first ∷ rest) (suc place) output is = ap (λ (l : List Output). first ∷ l) (one_more rest place output is)

-- one more was put
pub put_one : (sent between now : Option (List Bound)) (verdict : Verdict) (place port : ℕ) (bytes : List ℕ) → Appends sent between (put_before place verdict)
    → Some (record { port = port; bytes = bytes }) ≡ slice_get verdict.outputs place → Puts between now sents.All port bytes → Appends sent now (put_before (place + 1) verdict)
put_one sent between now verdict place port bytes before is puts =
    let next : place + 1 ≡ suc place = omega arith in
    let more : put_before (suc place) verdict ≡ put_before place verdict ++ (port, bytes) ∷ [] =
    ap (map departure) (one_more verdict.outputs place (record { port = port; bytes = bytes }) is) ∙ map-append departure (take place verdict.outputs) (record { port = port; bytes = bytes } ∷ []) in
    rw next (subst (Appends sent now) (sym more) (Appends-trans sent between now (put_before place verdict) ((port, bytes) ∷ []) before puts))

-- one could not be put
pub put_failed : (sent between now : Option (List Bound)) (verdict : Verdict) (place port : ℕ) (bytes : List ℕ) → Appends sent between (put_before place verdict)
    → Some (record { port = port; bytes = bytes }) ≡ slice_get verdict.outputs place → Puts between now sents.Failed port bytes → AppendsPrefix sent now (leaving verdict)
put_failed sent between now verdict place port bytes before is kept =
    let within = slice_get_within verdict.outputs place (record { port = port; bytes = bytes }) (sym is) in
    let still : Appends sent now (put_before place verdict) = subst (Appends sent now) (append-nil (put_before place verdict)) (Appends-trans sent between now (put_before place verdict) [] before (kept_adds_none between now kept)) in (
      place,
      omega (arith, within, length-map verdict.outputs departure),
      subst (Appends sent now) (sym (take-map departure place verdict.outputs)) still,
    )
