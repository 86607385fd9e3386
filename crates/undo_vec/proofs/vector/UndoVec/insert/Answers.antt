use Rattle.std.proofs.Common.{◌++◌, ◌∷◌, [], ap, ◌∙◌}
use Rattle.std.specs.List.{remove}
use Rattle.undo_vec.specs.declared.edit.Edit.TheVariants as edits
use Rattle.undo_vec.proofs.Undoing.{more_room, still_undone, before_stays, inserted_back, length_inserted}
use Rattle.undo_vec.proofs.vector.UndoVec.insert.Goals as goal

pub invariant_of-self-in_err-insert : goal.invariant_of-self-in_err-insert
invariant_of-self-in_err-insert g c = rw (c.in_err-insert.ensures.items, c.reserve.ensures.items) (more_room c.self.inside.log.items c.self.inside.items.items _ _ c.in_err-insert.ensures.capacity c.self.invariant)

pub invariant_of-self-2 : goal.invariant_of-self-2
invariant_of-self-2 g c =
    let items_are = c.in_ok-insert.ensures.items in
    let is = ap (λ xs. remove xs c.args.place) items_are ∙ inserted_back c.self.inside.items.items c.args.place c.args.item (rw (ap (λ v. v.items) c.self.view_is) c.requires) in
    still_undone c.self.inside.log.items c.push.new.log.items (edits.Inserted c.args.place) c.self.inside.items.items c.insert.new.self.items _ _ c.self.invariant c.in_ok-insert.ensures.capacity is
    (rw items_are (length_inserted c.self.inside.items.items c.args.place c.args.item (rw (ap (λ v. v.items) c.self.view_is) c.requires)))
    (c.push.ensures ∙ ap (λ es. es ++ edits.Inserted c.args.place ∷ []) c.reserve.ensures.items)

pub returns-clause-before : goal.returns-clause-before
returns-clause-before g c =
    let is = ap (λ xs. remove xs c.args.place) c.in_ok-insert.ensures.items ∙ inserted_back c.self.inside.items.items c.args.place c.args.item (rw (ap (λ v. v.items) c.self.view_is) c.requires) in
    before_stays c.self.inside.log.items c.push.new.log.items (edits.Inserted c.args.place) c.self.inside.items.items c.insert.new.self.items is
    (c.push.ensures ∙ ap (λ es. es ++ edits.Inserted c.args.place ∷ []) c.reserve.ensures.items)
    ∙ ap (λ v. v.before) c.self.view_is
