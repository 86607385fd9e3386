use Rattle.std.proofs.Common.{List, map, get_or, ap, sym, subst, ◌∙◌, refl}
use Rattle.profile_store.specs.declared.rows.MemberRow.{MemberRow}
use Rattle.profile_store.specs.Order.{AreInOrder, key_before, member_key}
use Rattle.profile_store.specs.Rows.{member_row, uses_of_row}
use Rattle.profile_store.proofs.MemberEdits.{members_modified, no_members_modified, uses_modified, order_replaced}
use Rattle.profile_store.proofs.members.modify.Goals as goal

pub returns-in_ok-replace-clause-members : goal.returns-in_ok-replace-clause-members
returns-in_ok-replace-clause-members c = ap (map (λ (row : MemberRow). row.member)) c.in_ok-replace.ensures.ok ∙ members_modified _ _ _ c.requires (rw c.as_slice.ensures at c.in-Ok.ensures.found)

pub returns-in_ok-replace-clause-uses : goal.returns-in_ok-replace-clause-uses
returns-in_ok-replace-clause-uses c =
    let read = rw c.as_slice-in-Ok.ensures at c.index-as_slice-place.is in
    let other : MemberRow = record { member = c.args.member; uses = (get_or c.as_slice-in-Ok.result.now c.in-Ok.place c.index-as_slice-place.result).uses } in
    λ p i. ap (λ (rows : List MemberRow). uses_of_row (member_row p i rows)) c.in_ok-replace.ensures.ok
    ∙ uses_modified _ c.args.member.profile c.args.member.id _ c.requires (rw c.as_slice.ensures at c.in-Ok.ensures.found) c.index-as_slice-place.result other read refl (ap (λ (row : MemberRow). row.uses) (sym c.index-as_slice-place.is)) p i

pub returns-in_ok-replace-clause-order : goal.returns-in_ok-replace-clause-order
returns-in_ok-replace-clause-order c = subst (AreInOrder key_before member_key) (sym c.in_ok-replace.ensures.ok) (order_replaced _ _ _ _ _ c.requires (rw c.as_slice.ensures at c.in-Ok.ensures.found) refl)

pub returns-in_default-clause-members : goal.returns-in_default-clause-members
returns-in_default-clause-members c = no_members_modified _ _ _ (rw c.as_slice.ensures at c.in_default.ensures.absent)
