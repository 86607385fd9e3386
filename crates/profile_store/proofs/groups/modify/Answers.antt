use Rattle.std.proofs.Common.{List, map, get_or, ap, sym, subst, ◌∙◌, refl}
use Rattle.profile_store.specs.declared.rows.GroupRow.{GroupRow}
use Rattle.profile_store.specs.Order.{AreInOrder, key_before, group_key}
use Rattle.profile_store.specs.Rows.{group_row, uses_of_group_row}
use Rattle.profile_store.proofs.GroupEdits.{groups_modified, no_groups_modified, uses_modified, order_replaced}
use Rattle.profile_store.proofs.groups.modify.Goals as goal

pub returns-in_ok-replace-clause-groups : goal.returns-in_ok-replace-clause-groups
returns-in_ok-replace-clause-groups c = ap (map (λ (row : GroupRow). row.group)) c.in_ok-replace.ensures.ok ∙ groups_modified _ _ _ c.requires (rw c.as_slice.ensures at c.in-Ok.ensures.found)

pub returns-in_ok-replace-clause-uses : goal.returns-in_ok-replace-clause-uses
returns-in_ok-replace-clause-uses c =
    let read = rw c.as_slice-in-Ok.ensures at c.index-as_slice-place.is in
    let other : GroupRow = record { group = c.args.group; uses = (get_or c.as_slice-in-Ok.result.now c.in-Ok.place c.index-as_slice-place.result).uses } in
    λ p i. ap (λ (rows : List GroupRow). uses_of_group_row (group_row p i rows)) c.in_ok-replace.ensures.ok
    ∙ uses_modified _ c.args.group.profile c.args.group.id _ c.requires (rw c.as_slice.ensures at c.in-Ok.ensures.found) c.index-as_slice-place.result other read refl (ap (λ (row : GroupRow). row.uses) (sym c.index-as_slice-place.is)) p i

pub returns-in_ok-replace-clause-order : goal.returns-in_ok-replace-clause-order
returns-in_ok-replace-clause-order c = subst (AreInOrder key_before group_key) (sym c.in_ok-replace.ensures.ok) (order_replaced _ _ _ _ _ c.requires (rw c.as_slice.ensures at c.in-Ok.ensures.found) refl)

pub returns-in_default-clause-groups : goal.returns-in_default-clause-groups
returns-in_default-clause-groups c = no_groups_modified _ _ _ (rw c.as_slice.ensures at c.in_default.ensures.absent)
