use Rattle.std.proofs.Common.{List, map, ap, sym, subst, ◌∙◌}
use Rattle.profile_store.specs.declared.rows.MemberRow.{MemberRow}
use Rattle.profile_store.specs.Order.{AreInOrder, key_before, member_key}
use Rattle.profile_store.specs.Rows.{member_row, uses_of_row}
use Rattle.profile_store.proofs.MemberEdits.{members_deleted, no_members_deleted, uses_deleted, order_removed}
use Rattle.profile_store.proofs.members.delete.Goals as goal

pub returns-in_ok-remove-clause-members : goal.returns-in_ok-remove-clause-members
returns-in_ok-remove-clause-members c = ap (map (λ (row : MemberRow). row.member)) c.in_ok-remove.ensures.ok ∙ members_deleted _ _ _ _ c.requires.order (rw c.as_slice.ensures at c.in-Ok.ensures.found)

pub returns-in_ok-remove-clause-uses : goal.returns-in_ok-remove-clause-uses
returns-in_ok-remove-clause-uses c = λ p i. ap (λ (rows : List MemberRow). uses_of_row (member_row p i rows)) c.in_ok-remove.ensures.ok
    ∙ uses_deleted _ _ _ _ c.requires.order (rw c.as_slice.ensures at c.in-Ok.ensures.found) c.requires.unused p i

pub returns-in_ok-remove-clause-order : goal.returns-in_ok-remove-clause-order
returns-in_ok-remove-clause-order c = subst (AreInOrder key_before member_key) (sym c.in_ok-remove.ensures.ok) (order_removed _ _ _ _ c.requires.order (rw c.as_slice.ensures at c.in-Ok.ensures.found))

pub returns-in_default-clause-members : goal.returns-in_default-clause-members
returns-in_default-clause-members c = no_members_deleted _ _ _ _ (rw c.as_slice.ensures at c.in_default.ensures.absent)
