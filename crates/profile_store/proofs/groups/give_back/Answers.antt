use Rattle.std.proofs.Common.{List, map, cond, ◌+◌, ◌-◌, ◌≤◌, ap, sym, subst, ◌∙◌, arith}
use Rattle.profile_store.specs.declared.rows.GroupRow.{GroupRow}
use Rattle.plane_spec.specs.Profiles.{same_id}
use Rattle.profile_store.specs.Order.{AreInOrder, key_before, group_key}
use Rattle.profile_store.specs.Rows.{group_row, uses_of_group_row}
use Rattle.profile_store.proofs.GroupEdits.{unused_in_gap, uses_at, groups_kept, uses_lowered, order_kept}
use Rattle.profile_store.proofs.groups.give_back.Goals as goal

pub overflow_sub-uses : goal.overflow_sub-uses
overflow_sub-uses c =
    omega (arith, c.requires.named, uses_at _ _ _ _ c.requires.order (rw c.as_slice.ensures at c.in-Ok.ensures.found) c.index-as_slice-place.result (rw c.as_slice-in-Ok.ensures at c.index-as_slice-place.is))

pub returns-in_ok-replace-clause-groups : goal.returns-in_ok-replace-clause-groups
returns-in_ok-replace-clause-groups c = ap (map (λ (row : GroupRow). row.group)) c.in_ok-replace.ensures.ok
    ∙ groups_kept _ _ (rw c.as_slice.ensures at c.in-Ok.ensures.found).in_range c.index-as_slice-place.result _ (rw c.as_slice-in-Ok.ensures at c.index-as_slice-place.is) c.in_ok-group.ensures

pub returns-in_ok-replace-clause-uses : goal.returns-in_ok-replace-clause-uses
returns-in_ok-replace-clause-uses c =
    let stands = rw c.as_slice.ensures at c.in-Ok.ensures.found in
    let read = rw c.as_slice-in-Ok.ensures at c.index-as_slice-place.is in
    let enough : 1 ≤ c.index-as_slice-place.result.uses = omega (arith, c.requires.named, uses_at _ _ _ _ c.requires.order stands c.index-as_slice-place.result read) in
    let other : GroupRow = record { group = c.in_ok-group.group; uses = c.index-as_slice-place.result.uses - 1 } in
    λ p i. ap (λ (rows : List GroupRow). uses_of_group_row (group_row p i rows) + cond (same_id p i c.args.profile c.args.id) 1 0) c.in_ok-replace.ensures.ok
    ∙ uses_lowered _ _ _ _ c.requires.order stands c.index-as_slice-place.result other read c.in_ok-group.ensures (omega (arith, enough)) p i

pub returns-in_ok-replace-clause-order : goal.returns-in_ok-replace-clause-order
returns-in_ok-replace-clause-order c = subst (AreInOrder key_before group_key) (sym c.in_ok-replace.ensures.ok)
    (order_kept _ _ _ _ c.requires.order (rw c.as_slice.ensures at c.in-Ok.ensures.found) c.index-as_slice-place.result _ (rw c.as_slice-in-Ok.ensures at c.index-as_slice-place.is) c.in_ok-group.ensures)

pub returns-in_default-clause-uses : goal.returns-in_default-clause-uses
returns-in_default-clause-uses c = λ p i. absurd (unused_in_gap _ _ _ _ (rw c.as_slice.ensures at c.in_default.ensures.absent) c.requires.named)
