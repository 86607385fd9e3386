use Rattle.std.proofs.Common.{◌++◌, ◌∷◌, [], length, set, get_or, sym, ap, ◌∙◌, arith}
use Rattle.std.proofs.lemmas.List.{length-set}
use Rattle.undo_vec.specs.declared.edit.Edit.TheVariants as edits
use Rattle.undo_vec.proofs.Undoing.{still_undone, before_stays, replaced_back}
use Rattle.undo_vec.proofs.vector.UndoVec.replace.Goals as goal

pub invariant_of-self-2 : goal.invariant_of-self-2
invariant_of-self-2 g c =
    let old = c.self.inside.items.items in
    let former = c.replace-former.result in
    let read = c.replace-former.ensures.value ∙ c.index_mut.ensures.value ∙ ap (λ x. get_or old c.args.place x) (sym c.replace-former.ensures.value) in
    still_undone c.self.inside.log.items c.push.new.log.items (edits.Replaced c.args.place former) old (set old c.args.place c.replace-former.new.dest) _ _ c.self.invariant (omega arith)
    (replaced_back old c.args.place c.replace-former.new.dest former read)
    (omega (arith, length-set old c.args.place c.replace-former.new.dest, ap (λ v. length v.items) c.self.view_is, c.requires))
    (c.push.ensures ∙ ap (λ es. es ++ edits.Replaced c.args.place former ∷ []) c.reserve.ensures.items)

pub returns-clause-before : goal.returns-clause-before
returns-clause-before g c =
    let old = c.self.inside.items.items in
    let former = c.replace-former.result in
    let read = c.replace-former.ensures.value ∙ c.index_mut.ensures.value ∙ ap (λ x. get_or old c.args.place x) (sym c.replace-former.ensures.value) in
    before_stays c.self.inside.log.items c.push.new.log.items (edits.Replaced c.args.place former) old (set old c.args.place c.replace-former.new.dest)
    (replaced_back old c.args.place c.replace-former.new.dest former read)
    (c.push.ensures ∙ ap (λ es. es ++ edits.Replaced c.args.place former ∷ []) c.reserve.ensures.items)
    ∙ ap (λ v. v.before) c.self.view_is
