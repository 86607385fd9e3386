use Rattle.std.proofs.Common.{List, refl, sym, ap, ◌∙◌}
use Rattle.std.specs.List.{position}
use Rattle.p4_types.specs.declared.table.Entry.{Entry}
use Rattle.plane_spec.specs.Entries.{same_name}
use Rattle.table_store.proofs.OneGroup.{keeps_same, group_changed}
use Rattle.table_store.proofs.OneTable.{changed_at, changed_nowhere}
use Rattle.table_store.proofs.rows.change.Goals as goal

pub returns-in_ok-replace-clause-ok : goal.returns-in_ok-replace-clause-ok
returns-in_ok-replace-clause-ok c =
    let place = ap (λ (xs : List Entry). position (λ (x : Entry). same_name c.args.change.now.name x.name) xs) (sym c.as_slice.ensures) ∙ sym c.place_of-place.ensures ∙ c.in-Some.is in
    c.in_ok-replace.ensures.ok ∙ changed_at c.args.change.now c.args.group.now.entries.items c.in-Some.place c.index-rows-place.result c.in_ok-changed.changed c.requires.order place (rw (sym c.as_slice-rows.ensures) c.index-rows-place.is) c.in_ok-changed.ensures

pub returns-in_ok-replace-clause-group : goal.returns-in_ok-replace-clause-group
returns-in_ok-replace-clause-group c =
    let place = ap (λ (xs : List Entry). position (λ (x : Entry). same_name c.args.change.now.name x.name) xs) (sym c.as_slice.ensures) ∙ sym c.place_of-place.ensures ∙ c.in-Some.is in
    group_changed _ _ refl (keeps_same c.args.group.now.index c.args.group.now.index refl) c.requires c.args.change.now
    (c.in_ok-replace.ensures.ok ∙ changed_at c.args.change.now c.args.group.now.entries.items c.in-Some.place c.index-rows-place.result c.in_ok-changed.changed c.requires.order place (rw (sym c.as_slice-rows.ensures) c.index-rows-place.is) c.in_ok-changed.ensures)

pub returns-in_default-clause-ok : goal.returns-in_default-clause-ok
returns-in_default-clause-ok c =
    let place = ap (λ (xs : List Entry). position (λ (x : Entry). same_name c.args.change.now.name x.name) xs) (sym c.as_slice.ensures) ∙ sym c.place_of-place.ensures ∙ c.in_default.is in
    changed_nowhere c.args.change.now _ place
