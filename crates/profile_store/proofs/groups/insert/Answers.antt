use Rattle.std.proofs.Common.{List, map, ap, sym, subst, ◌∙◌, refl}
use Rattle.profile_store.specs.declared.rows.GroupRow.{GroupRow}
use Rattle.profile_store.specs.Order.{AreInOrder, key_before, group_key}
use Rattle.profile_store.specs.Rows.{group_row, uses_of_group_row}
use Rattle.profile_store.proofs.GroupEdits.{absent_stands, groups_inserted, uses_inserted, order_inserted}
use Rattle.profile_store.proofs.groups.insert.Goals as goal

pub returns-in_ok-insert-clause-groups : goal.returns-in_ok-insert-clause-groups
returns-in_ok-insert-clause-groups c = ap (map (λ (row : GroupRow). row.group)) c.in_ok-insert.ensures.ok ∙ groups_inserted _ _ _ (rw c.as_slice.ensures at c.in-Err.ensures.absent)

pub returns-in_ok-insert-clause-uses : goal.returns-in_ok-insert-clause-uses
returns-in_ok-insert-clause-uses c = λ p i. ap (λ (rows : List GroupRow). uses_of_group_row (group_row p i rows)) c.in_ok-insert.ensures.ok ∙ uses_inserted _ _ _ (rw c.as_slice.ensures at c.in-Err.ensures.absent) refl p i

pub returns-in_ok-insert-clause-order : goal.returns-in_ok-insert-clause-order
returns-in_ok-insert-clause-order c = subst (AreInOrder key_before group_key) (sym c.in_ok-insert.ensures.ok) (order_inserted _ _ _ c.requires.order (rw c.as_slice.ensures at c.in-Err.ensures.absent))

pub returns-in_default-clause-groups : goal.returns-in_default-clause-groups
returns-in_default-clause-groups c = absurd (absent_stands _ _ _ _ c.requires.order (rw c.as_slice.ensures at c.in_default.ensures.found) c.requires.absent)
