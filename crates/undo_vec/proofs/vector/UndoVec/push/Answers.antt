use Rattle.std.proofs.Common.{◌≡◌, ◌++◌, ◌∷◌, [], length, ap, ◌∙◌, arith}
use Rattle.std.specs.List.{remove}
use Rattle.undo_vec.specs.declared.edit.Edit.TheVariants as edits
use Rattle.undo_vec.proofs.Undoing.{more_room, still_undone, before_stays, pushed_back, length_pushed}
use Rattle.undo_vec.proofs.vector.UndoVec.push.Goals as goal

pub invariant_of-self-in_err-push : goal.invariant_of-self-in_err-push
invariant_of-self-in_err-push g c = rw (c.in_err-push.ensures.items, c.reserve.ensures.items) (more_room c.self.inside.log.items c.self.inside.items.items _ _ c.in_err-push.ensures.capacity c.self.invariant)

pub invariant_of-self-2 : goal.invariant_of-self-2
invariant_of-self-2 g c =
    let old = c.self.inside.items.items in
    let place : c.len-place.result ≡ length old = omega (arith, c.len-place.ensures, c.self.inside.items.ok.0) in
    let is = ap (λ xs. remove xs c.len-place.result) c.in_ok-push.ensures.items ∙ (ap (λ n. remove (old ++ c.args.item ∷ []) n) place ∙ pushed_back old c.args.item) in
    still_undone c.self.inside.log.items c.push-2.new.log.items (edits.Inserted c.len-place.result) old c.push.new.self.items _ _ c.self.invariant c.in_ok-push.ensures.capacity is
    (rw (c.in_ok-push.ensures.items, place) (length_pushed old c.args.item))
    (c.push-2.ensures ∙ ap (λ es. es ++ edits.Inserted c.len-place.result ∷ []) c.reserve.ensures.items)

pub returns-clause-before : goal.returns-clause-before
returns-clause-before g c =
    let old = c.self.inside.items.items in
    let place : c.len-place.result ≡ length old = omega (arith, c.len-place.ensures, c.self.inside.items.ok.0) in
    let is = ap (λ xs. remove xs c.len-place.result) c.in_ok-push.ensures.items ∙ (ap (λ n. remove (old ++ c.args.item ∷ []) n) place ∙ pushed_back old c.args.item) in
    before_stays c.self.inside.log.items c.push-2.new.log.items (edits.Inserted c.len-place.result) old c.push.new.self.items is
    (c.push-2.ensures ∙ ap (λ es. es ++ edits.Inserted c.len-place.result ∷ []) c.reserve.ensures.items)
    ∙ ap (λ v. v.before) c.self.view_is
