use Rattle.std.proofs.Common.{List, refl, sym, ap, ◌∙◌}
use Rattle.std.specs.List.{position}
use Rattle.p4_types.specs.declared.table.Entry.{Entry}
use Rattle.plane_spec.specs.Entries.{same_name}
use Rattle.table_store.proofs.OneGroup.{keeps_same, group_deleted}
use Rattle.table_store.proofs.OneTable.{removed_at, removed_nowhere}
use Rattle.table_store.proofs.rows.remove.Goals as goal

pub returns-in_ok-remove-clause-ok : goal.returns-in_ok-remove-clause-ok
returns-in_ok-remove-clause-ok c =
    let place = ap (λ (xs : List Entry). position (λ (x : Entry). same_name c.args.name.now x.name) xs) (sym c.as_slice.ensures) ∙ sym c.place_of-place.ensures ∙ c.in-Some.is in
    removed_at c.args.name.now _ _ _ c.requires.order place c.in_ok-remove.ensures.ok

pub returns-in_ok-remove-clause-group : goal.returns-in_ok-remove-clause-group
returns-in_ok-remove-clause-group c =
    let place = ap (λ (xs : List Entry). position (λ (x : Entry). same_name c.args.name.now x.name) xs) (sym c.as_slice.ensures) ∙ sym c.place_of-place.ensures ∙ c.in-Some.is in
    group_deleted _ _ refl (keeps_same c.args.group.now.index c.args.group.now.index refl) c.requires c.args.name.now
    (removed_at c.args.name.now _ _ _ c.requires.order place c.in_ok-remove.ensures.ok)

pub returns-in_default-clause-ok : goal.returns-in_default-clause-ok
returns-in_default-clause-ok c =
    let place = ap (λ (xs : List Entry). position (λ (x : Entry). same_name c.args.name.now x.name) xs) (sym c.as_slice.ensures) ∙ sym c.place_of-place.ensures ∙ c.in_default.is in
    removed_nowhere c.args.name.now _ place
