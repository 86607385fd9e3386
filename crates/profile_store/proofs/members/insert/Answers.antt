use Rattle.std.proofs.Common.{List, map, ap, sym, subst, ◌∙◌, refl}
use Rattle.profile_store.specs.declared.rows.MemberRow.{MemberRow}
use Rattle.profile_store.specs.Order.{AreInOrder, key_before, member_key}
use Rattle.profile_store.specs.Rows.{member_row, uses_of_row}
use Rattle.profile_store.proofs.MemberEdits.{absent_stands, members_inserted, uses_inserted, order_inserted}
use Rattle.profile_store.proofs.members.insert.Goals as goal

pub returns-in_ok-insert-clause-members : goal.returns-in_ok-insert-clause-members
returns-in_ok-insert-clause-members c = ap (map (λ (row : MemberRow). row.member)) c.in_ok-insert.ensures.ok ∙ members_inserted _ _ _ (rw c.as_slice.ensures at c.in-Err.ensures.absent)

pub returns-in_ok-insert-clause-uses : goal.returns-in_ok-insert-clause-uses
returns-in_ok-insert-clause-uses c = λ p i. ap (λ (rows : List MemberRow). uses_of_row (member_row p i rows)) c.in_ok-insert.ensures.ok ∙ uses_inserted _ _ _ (rw c.as_slice.ensures at c.in-Err.ensures.absent) refl p i

pub returns-in_ok-insert-clause-order : goal.returns-in_ok-insert-clause-order
returns-in_ok-insert-clause-order c = subst (AreInOrder key_before member_key) (sym c.in_ok-insert.ensures.ok) (order_inserted _ _ _ c.requires.order (rw c.as_slice.ensures at c.in-Err.ensures.absent))

pub returns-in_default-clause-members : goal.returns-in_default-clause-members
returns-in_default-clause-members c = absurd (absent_stands _ _ _ _ c.requires.order (rw c.as_slice.ensures at c.in_default.ensures.found) c.requires.absent)
