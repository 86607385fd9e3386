use Rattle.std.proofs.Common.{◌++◌, ◌∷◌, [], length, ap, ◌∙◌, arith}
use Rattle.std.specs.List.{insert}
use Rattle.undo_vec.specs.declared.edit.Edit.TheVariants as edits
use Rattle.undo_vec.proofs.Undoing.{still_undone, before_stays, removed_back}
use Rattle.undo_vec.proofs.vector.UndoVec.remove.Goals as goal

pub invariant_of-self-2 : goal.invariant_of-self-2
invariant_of-self-2 g c =
    let old = c.self.inside.items.items in
    let former = c.remove-former.result in
    let is = ap (λ xs. insert xs c.args.place former) c.remove-former.ensures.items ∙ removed_back old c.args.place former (rw (ap (λ v. v.items) c.self.view_is) c.requires) c.remove-former.ensures.value in
    still_undone c.self.inside.log.items c.push.new.log.items (edits.Removed c.args.place former) old c.remove-former.new.self.items _ _ c.self.invariant (omega (arith, c.remove-former.ensures.capacity)) is (
      omega (arith, c.remove-former.ensures.len, c.requires, ap (λ v. length v.items) c.self.view_is, c.self.inside.items.ok.0, c.remove-former.new.self.ok.0),
      omega (arith, c.remove-former.ensures.len, c.remove-former.ensures.capacity, c.self.inside.items.ok.0, c.self.inside.items.ok.1, c.remove-former.new.self.ok.0),
    )
    (c.push.ensures ∙ ap (λ es. es ++ edits.Removed c.args.place former ∷ []) c.reserve.ensures.items)

pub returns-clause-before : goal.returns-clause-before
returns-clause-before g c =
    let old = c.self.inside.items.items in
    let former = c.remove-former.result in
    let is = ap (λ xs. insert xs c.args.place former) c.remove-former.ensures.items ∙ removed_back old c.args.place former (rw (ap (λ v. v.items) c.self.view_is) c.requires) c.remove-former.ensures.value in
    before_stays c.self.inside.log.items c.push.new.log.items (edits.Removed c.args.place former) old c.remove-former.new.self.items is
    (c.push.ensures ∙ ap (λ es. es ++ edits.Removed c.args.place former ∷ []) c.reserve.ensures.items)
    ∙ ap (λ v. v.before) c.self.view_is
