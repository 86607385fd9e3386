use Rattle.std.proofs.Common.{◌==◌, ap, ◌∙◌, arith}
use Rattle.name_index.proofs.Firsts.{place_more}
use Rattle.bm_link.proofs.scope.places_of.Goals as goal

pub loop-place-preserved : goal.loop-place-preserved
loop-place-preserved c =
    λ q. place_more (λ action. action.id == q) c.args.actions.now c.loop-place.place c.index-actions-place.result _ _ _ (omega arith)
    (ap (λ id. id == q) (c.id_of-id.ensures ∙ ap (λ action. action.id) c.index-actions-place.is)) (c.loop-place.invariant q) (c.in_ok-put_first.ensures q)
