use Rattle.std.proofs.Common.{◌≡◌, ℕ, List, [], ◌∷◌, ◌++◌, length, map, ap, ◌∙◌, sym, rules}
use Rattle.std.proofs.lemmas.List.{append-nil, map-id}
use Rattle.std.proofs.lemmas.Iterator.Adapters.{YieldsList-from_vec}
use Rattle.std.proofs.lemmas.Iterator.Consumers.{YieldsList-end}
use Rattle.std.specs.Vec.{vec_len}
use Rattle.p4_types.specs.declared.messages.Entity.{Entity}
use Rattle.switch_spec.specs.Reading.{response_bytes, chunks}
use Rattle.plane_read.proofs.Chunks.{ends}
use Rattle.plane_read.proofs.messages.messages.Goals as goal

pub returns : goal.returns
returns c =
    let written : List (List ℕ) = c.loop-entity.written in
    let gathered : List Entity = c.loop-entity.gathered in
    let p : c.push.new.self ≡ written ++ response_bytes gathered ∷ [] = cc (c.in_ok-push.ensures.ok, c.in_ok-bytes.ensures) in
    let h = c.into_iter-entity-iterator.ensures.into_iter_gives in
    let k = c.into_vec-entity-items.ensures in
    let count : vec_len c.into_vec-entity-items.result ≡ length c.into_vec-entity-items.result.items = search rules in
    let whole = YieldsList-from_vec c.args.entities (h.0 ∙ k) (h.1 ∙ count ∙ ap length k) in
    let all = sym (map-id c.loop-entity.yielded) ∙ (YieldsList-end whole c.loop-entity.yielded c.loop-entity.entity-iterator c.loop-entity.yielded_by c.next.result c.next.new.self c.in-None.is c.next.ensures.steps).0 in
    p ∙ sym (ends written gathered c.loop-entity.invariant.few) ∙ c.loop-entity.invariant.whole []
    ∙ ap (λ list. map response_bytes (chunks list)) (append-nil c.loop-entity.yielded ∙ all)
