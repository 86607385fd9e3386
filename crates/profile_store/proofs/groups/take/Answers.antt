use Rattle.std.proofs.Common.{List, map, ap, sym, subst, ◌∙◌}
use Rattle.profile_store.specs.declared.rows.GroupRow.{GroupRow}
use Rattle.profile_store.specs.Order.{AreInOrder, key_before, group_key}
use Rattle.profile_store.specs.Rows.{group_row, uses_of_group_row}
use Rattle.profile_store.proofs.GroupEdits.{there_in_gap, groups_kept, uses_raised, order_kept}
use Rattle.profile_store.proofs.groups.take.Goals as goal

pub returns-in_ok-replace-clause-groups : goal.returns-in_ok-replace-clause-groups
returns-in_ok-replace-clause-groups c = ap (map (λ (row : GroupRow). row.group)) c.in_ok-replace.ensures.ok
    ∙ groups_kept _ _ (rw c.as_slice.ensures at c.in-Ok.ensures.found).in_range c.index-as_slice-place.result _ (rw c.as_slice-in-Ok.ensures at c.index-as_slice-place.is) c.in_ok-group.ensures

pub returns-in_ok-replace-clause-uses : goal.returns-in_ok-replace-clause-uses
returns-in_ok-replace-clause-uses c = λ p i. ap (λ (rows : List GroupRow). uses_of_group_row (group_row p i rows)) c.in_ok-replace.ensures.ok
    ∙ uses_raised _ _ _ _ c.requires.order (rw c.as_slice.ensures at c.in-Ok.ensures.found) c.index-as_slice-place.result _ (rw c.as_slice-in-Ok.ensures at c.index-as_slice-place.is) c.in_ok-group.ensures c.in_ok-uses.ensures.sum p i

pub returns-in_ok-replace-clause-order : goal.returns-in_ok-replace-clause-order
returns-in_ok-replace-clause-order c = subst (AreInOrder key_before group_key) (sym c.in_ok-replace.ensures.ok)
    (order_kept _ _ _ _ c.requires.order (rw c.as_slice.ensures at c.in-Ok.ensures.found) c.index-as_slice-place.result _ (rw c.as_slice-in-Ok.ensures at c.index-as_slice-place.is) c.in_ok-group.ensures)

pub returns-in_default-clause-uses : goal.returns-in_default-clause-uses
returns-in_default-clause-uses c = λ p i. absurd (there_in_gap _ _ _ _ (rw c.as_slice.ensures at c.in_default.ensures.absent) c.requires.there)
