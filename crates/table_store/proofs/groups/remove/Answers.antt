use Rattle.std.proofs.Common.{refl}
use Rattle.table_store.proofs.Lists.{on_err}
use Rattle.table_store.proofs.ByTable.{here, groups_set, flat_deleted, none_deleted, length_deleted_at, none_named, flat_same}
use Rattle.table_store.proofs.Undo.{step_none, step_set}
use Rattle.table_store.proofs.groups.remove.Goals as goal

pub remove-requires : goal.remove-requires
remove-requires c = here _ c.requires _ _ (rw c.deref.ensures.value at c.in-Ok.ensures.found) _ c.index_mut-group.ensures.value

pub returns-in_err-remove-clause-err : goal.returns-in_err-remove-clause-err
returns-in_err-remove-clause-err c = on_err _ _ (flat_same _ c.requires _ _ (rw c.deref.ensures.value at c.in-Ok.ensures.found) _ c.index_mut-group.ensures.value _ c.in_err-remove.ensures.err)

pub returns-in_err-remove-clause-groups : goal.returns-in_err-remove-clause-groups
returns-in_err-remove-clause-groups c = groups_set _ c.requires _ _ (rw c.deref.ensures.value at c.in-Ok.ensures.found) _ c.index_mut-group.ensures.value _ c.remove.ensures.step.table c.remove.ensures.group

pub returns-in_err-remove-clause-step : goal.returns-in_err-remove-clause-step
returns-in_err-remove-clause-step c = step_set _ c.requires _ _ (rw c.deref.ensures.value at c.in-Ok.ensures.found) _ c.index_mut-group.ensures.value _ c.remove.ensures.step

pub returns-in_ok-remove-clause-removed : goal.returns-in_ok-remove-clause-removed
returns-in_ok-remove-clause-removed c = flat_deleted _ c.requires _ _ (rw c.deref.ensures.value at c.in-Ok.ensures.found) _ c.index_mut-group.ensures.value _ _ refl c.in_ok-remove.ensures.ok

pub returns-in_ok-remove-clause-one : goal.returns-in_ok-remove-clause-one
returns-in_ok-remove-clause-one c = length_deleted_at _ c.requires _ _ (rw c.deref.ensures.value at c.in-Ok.ensures.found) _ c.index_mut-group.ensures.value _ _ refl c.in_ok-remove.ensures.ok

pub returns-in_ok-remove-clause-groups : goal.returns-in_ok-remove-clause-groups
returns-in_ok-remove-clause-groups c = groups_set _ c.requires _ _ (rw c.deref.ensures.value at c.in-Ok.ensures.found) _ c.index_mut-group.ensures.value _ c.remove.ensures.step.table c.remove.ensures.group

pub returns-in_ok-remove-clause-step : goal.returns-in_ok-remove-clause-step
returns-in_ok-remove-clause-step c = step_set _ c.requires _ _ (rw c.deref.ensures.value at c.in-Ok.ensures.found) _ c.index_mut-group.ensures.value _ c.remove.ensures.step

pub returns-in_default-clause-removed : goal.returns-in_default-clause-removed
returns-in_default-clause-removed c = none_deleted _ c.requires _ _ (rw c.deref.ensures.value at c.in_default.ensures.absent) _ refl

pub returns-in_default-clause-one : goal.returns-in_default-clause-one
returns-in_default-clause-one c = none_named _ c.requires _ _ (rw c.deref.ensures.value at c.in_default.ensures.absent) _ refl

pub returns-in_default-clause-step : goal.returns-in_default-clause-step
returns-in_default-clause-step c = step_none _ _
