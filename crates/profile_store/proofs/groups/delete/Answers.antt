use Rattle.std.proofs.Common.{List, map, ap, sym, subst, ◌∙◌}
use Rattle.profile_store.specs.declared.rows.GroupRow.{GroupRow}
use Rattle.profile_store.specs.Order.{AreInOrder, key_before, group_key}
use Rattle.profile_store.specs.Rows.{group_row, uses_of_group_row}
use Rattle.profile_store.proofs.GroupEdits.{groups_deleted, no_groups_deleted, uses_deleted, order_removed}
use Rattle.profile_store.proofs.groups.delete.Goals as goal

pub returns-in_ok-remove-clause-groups : goal.returns-in_ok-remove-clause-groups
returns-in_ok-remove-clause-groups c = ap (map (λ (row : GroupRow). row.group)) c.in_ok-remove.ensures.ok ∙ groups_deleted _ _ _ _ c.requires.order (rw c.as_slice.ensures at c.in-Ok.ensures.found)

pub returns-in_ok-remove-clause-uses : goal.returns-in_ok-remove-clause-uses
returns-in_ok-remove-clause-uses c = λ p i. ap (λ (rows : List GroupRow). uses_of_group_row (group_row p i rows)) c.in_ok-remove.ensures.ok
    ∙ uses_deleted _ _ _ _ c.requires.order (rw c.as_slice.ensures at c.in-Ok.ensures.found) c.requires.unused p i

pub returns-in_ok-remove-clause-order : goal.returns-in_ok-remove-clause-order
returns-in_ok-remove-clause-order c = subst (AreInOrder key_before group_key) (sym c.in_ok-remove.ensures.ok) (order_removed _ _ _ _ c.requires.order (rw c.as_slice.ensures at c.in-Ok.ensures.found))

pub returns-in_default-clause-groups : goal.returns-in_default-clause-groups
returns-in_default-clause-groups c = no_groups_deleted _ _ _ _ (rw c.as_slice.ensures at c.in_default.ensures.absent)
