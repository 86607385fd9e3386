use Rattle.std.proofs.Common.{refl}
use Rattle.table_store.proofs.Lists.{on_err}
use Rattle.table_store.proofs.ByTable.{here, groups_set, flat_modified, flat_same, none_modified}
use Rattle.table_store.proofs.Undo.{step_none, step_set}
use Rattle.table_store.proofs.groups.change.Goals as goal

pub change-requires : goal.change-requires
change-requires c = here _ c.requires _ _ (rw c.deref.ensures.value at c.in-Ok.ensures.found) _ c.index_mut-group.ensures.value

pub returns-in_err-change-clause-err : goal.returns-in_err-change-clause-err
returns-in_err-change-clause-err c = on_err _ _ (flat_same _ c.requires _ _ (rw c.deref.ensures.value at c.in-Ok.ensures.found) _ c.index_mut-group.ensures.value _ c.in_err-change.ensures.err)

pub returns-in_err-change-clause-groups : goal.returns-in_err-change-clause-groups
returns-in_err-change-clause-groups c = groups_set _ c.requires _ _ (rw c.deref.ensures.value at c.in-Ok.ensures.found) _ c.index_mut-group.ensures.value _ c.change.ensures.step.table c.change.ensures.group

pub returns-in_err-change-clause-step : goal.returns-in_err-change-clause-step
returns-in_err-change-clause-step c = step_set _ c.requires _ _ (rw c.deref.ensures.value at c.in-Ok.ensures.found) _ c.index_mut-group.ensures.value _ c.change.ensures.step

pub returns-in_ok-change-clause-changed : goal.returns-in_ok-change-clause-changed
returns-in_ok-change-clause-changed c = flat_modified _ c.requires _ _ (rw c.deref.ensures.value at c.in-Ok.ensures.found) _ c.index_mut-group.ensures.value _ _ refl c.in_ok-change.ensures.ok

pub returns-in_ok-change-clause-groups : goal.returns-in_ok-change-clause-groups
returns-in_ok-change-clause-groups c = groups_set _ c.requires _ _ (rw c.deref.ensures.value at c.in-Ok.ensures.found) _ c.index_mut-group.ensures.value _ c.change.ensures.step.table c.change.ensures.group

pub returns-in_ok-change-clause-step : goal.returns-in_ok-change-clause-step
returns-in_ok-change-clause-step c = step_set _ c.requires _ _ (rw c.deref.ensures.value at c.in-Ok.ensures.found) _ c.index_mut-group.ensures.value _ c.change.ensures.step

pub returns-in_default-clause-changed : goal.returns-in_default-clause-changed
returns-in_default-clause-changed c = none_modified _ c.requires _ _ (rw c.deref.ensures.value at c.in_default.ensures.absent) _ refl

pub returns-in_default-clause-step : goal.returns-in_default-clause-step
returns-in_default-clause-step c = step_none _ _
