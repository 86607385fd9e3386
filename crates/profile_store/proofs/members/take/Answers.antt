use Rattle.std.proofs.Common.{List, map, ap, sym, subst, ◌∙◌}
use Rattle.profile_store.specs.declared.rows.MemberRow.{MemberRow}
use Rattle.profile_store.specs.Order.{AreInOrder, key_before, member_key}
use Rattle.profile_store.specs.Rows.{member_row, uses_of_row}
use Rattle.profile_store.proofs.MemberEdits.{there_in_gap, members_kept, uses_raised, order_kept}
use Rattle.profile_store.proofs.members.take.Goals as goal

pub returns-in_ok-replace-clause-members : goal.returns-in_ok-replace-clause-members
returns-in_ok-replace-clause-members c = ap (map (λ (row : MemberRow). row.member)) c.in_ok-replace.ensures.ok
    ∙ members_kept _ _ (rw c.as_slice.ensures at c.in-Ok.ensures.found).in_range c.index-as_slice-place.result _ (rw c.as_slice-in-Ok.ensures at c.index-as_slice-place.is) c.copy-member.ensures

pub returns-in_ok-replace-clause-uses : goal.returns-in_ok-replace-clause-uses
returns-in_ok-replace-clause-uses c = λ p i. ap (λ (rows : List MemberRow). uses_of_row (member_row p i rows)) c.in_ok-replace.ensures.ok
    ∙ uses_raised _ _ _ _ c.requires.order (rw c.as_slice.ensures at c.in-Ok.ensures.found) c.index-as_slice-place.result _ (rw c.as_slice-in-Ok.ensures at c.index-as_slice-place.is) c.copy-member.ensures c.in_ok-uses.ensures.sum p i

pub returns-in_ok-replace-clause-order : goal.returns-in_ok-replace-clause-order
returns-in_ok-replace-clause-order c = subst (AreInOrder key_before member_key) (sym c.in_ok-replace.ensures.ok)
    (order_kept _ _ _ _ c.requires.order (rw c.as_slice.ensures at c.in-Ok.ensures.found) c.index-as_slice-place.result _ (rw c.as_slice-in-Ok.ensures at c.index-as_slice-place.is) c.copy-member.ensures)

pub returns-in_default-clause-uses : goal.returns-in_default-clause-uses
returns-in_default-clause-uses c = λ p i. absurd (there_in_gap _ _ _ _ (rw c.as_slice.ensures at c.in_default.ensures.absent) c.requires.there)
