use Rattle.std.proofs.Common.{◌++◌, [], ◌∷◌, sym, ap, ◌∙◌, subst}
use Rattle.bm_records.proofs.Nexts.{FindsPlaces, finds_next}
use Rattle.bm_records.proofs.pipelines.places.Goals as goal

pub members-preserved : goal.members-preserved
members-preserved c =
    let l = c.members in
    let name = c.in-Some.name in
    let value = c.in-Some.ensures.value in
    let place = c.in-Some.ensures.place in
    let pushed = c.in_ok-push.ensures.items ∙ ap (λ left. l.found.items ++ (name, left) ∷ []) c.left.ensures in
    subst (FindsPlaces c.args.members.now c.next_member.new.self) (sym pushed)
    (finds_next c.args.members.now l.rest c.next_member.new.self l.found.items name c.in-Some.member value.0 l.invariant value.1 value.2 place.0 place.1)
