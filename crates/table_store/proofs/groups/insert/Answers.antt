use Rattle.std.proofs.Common.{List, refl, sym, ap, subst, ◌∙◌}
use Rattle.plane_spec.specs.Entries.{new_entry}
use Rattle.table_store.specs.declared.groups.Group.{Group}
use Rattle.table_store.specs.Groups.{flat, AreGroups}
use Rattle.table_store.specs.Undo.{IsStep}
use Rattle.table_store.proofs.Lists.{on_err}
use Rattle.table_store.proofs.ByTable.{here, of_table, fresh_here, groups_set, flat_inserted, flat_opened, groups_opened, flat_same}
use Rattle.table_store.proofs.Undo.{step_none, step_set, step_insert}
use Rattle.table_store.proofs.groups.insert.Goals as goal

pub add-requires-clause-group : goal.add-requires-clause-group
add-requires-clause-group c = here _ c.requires.groups _ _ (rw c.deref.ensures.value at c.in-Ok.ensures.found) _ c.index_mut-group.ensures.value

pub add-requires-clause-table : goal.add-requires-clause-table
add-requires-clause-table c = sym (of_table _ c.requires.groups _ _ (rw c.deref.ensures.value at c.in-Ok.ensures.found) _ c.index_mut-group.ensures.value)

pub add-requires-clause-fresh : goal.add-requires-clause-fresh
add-requires-clause-fresh c = fresh_here _ c.requires.groups _ _ (rw c.deref.ensures.value at c.in-Ok.ensures.found) _ c.index_mut-group.ensures.value (new_entry c.args.table.now c.args.room c.args.change.now) c.requires.fresh

pub returns-in_err-add-in-Ok-clause-err : goal.returns-in_err-add-in-Ok-clause-err
returns-in_err-add-in-Ok-clause-err c = on_err _ _ (flat_same _ c.requires.groups _ _ (rw c.deref.ensures.value at c.in-Ok.ensures.found) _ c.index_mut-group.ensures.value _ c.in_err-add-in-Ok.ensures.err)

pub returns-in_err-add-in-Ok-clause-groups : goal.returns-in_err-add-in-Ok-clause-groups
returns-in_err-add-in-Ok-clause-groups c = groups_set _ c.requires.groups _ _ (rw c.deref.ensures.value at c.in-Ok.ensures.found) _ c.index_mut-group.ensures.value _ c.add.ensures.step.table c.add.ensures.group

pub returns-in_err-add-in-Ok-clause-step : goal.returns-in_err-add-in-Ok-clause-step
returns-in_err-add-in-Ok-clause-step c = step_set _ c.requires.groups _ _ (rw c.deref.ensures.value at c.in-Ok.ensures.found) _ c.index_mut-group.ensures.value _ c.add.ensures.step

pub returns-in_ok-add-in-Ok-clause-ok : goal.returns-in_ok-add-in-Ok-clause-ok
returns-in_ok-add-in-Ok-clause-ok c = flat_inserted _ c.requires.groups _ _ (rw c.deref.ensures.value at c.in-Ok.ensures.found) _ c.index_mut-group.ensures.value _ _ refl c.in_ok-add-in-Ok.ensures.ok

pub returns-in_ok-add-in-Ok-clause-groups : goal.returns-in_ok-add-in-Ok-clause-groups
returns-in_ok-add-in-Ok-clause-groups c = groups_set _ c.requires.groups _ _ (rw c.deref.ensures.value at c.in-Ok.ensures.found) _ c.index_mut-group.ensures.value _ c.add.ensures.step.table c.add.ensures.group

pub returns-in_ok-add-in-Ok-clause-step : goal.returns-in_ok-add-in-Ok-clause-step
returns-in_ok-add-in-Ok-clause-step c = step_set _ c.requires.groups _ _ (rw c.deref.ensures.value at c.in-Ok.ensures.found) _ c.index_mut-group.ensures.value _ c.add.ensures.step

pub returns-in_ok-insert-in-Err-clause-ok : goal.returns-in_ok-insert-in-Err-clause-ok
returns-in_ok-insert-in-Err-clause-ok c =
    ap flat c.in_ok-insert-in-Err.ensures.items ∙ flat_opened _ c.requires.groups _ _ (rw c.deref.ensures.value at c.in-Err.ensures.absent) _ _ refl c.in_ok-opened-in-Err.ensures.entries

pub returns-in_ok-insert-in-Err-clause-groups : goal.returns-in_ok-insert-in-Err-clause-groups
returns-in_ok-insert-in-Err-clause-groups c =
    subst AreGroups (sym c.in_ok-insert-in-Err.ensures.items)
    (groups_opened _ c.requires.groups _ _ (rw c.deref.ensures.value at c.in-Err.ensures.absent) _ (sym c.in_ok-opened-in-Err.ensures.table) c.in_ok-opened-in-Err.ensures.group)

pub returns-in_ok-insert-in-Err-clause-step : goal.returns-in_ok-insert-in-Err-clause-step
returns-in_ok-insert-in-Err-clause-step c =
    subst (λ (gs : List Group). IsStep c.args.change.now.name.table c.args.groups.now.items gs) (sym c.in_ok-insert-in-Err.ensures.items)
    (step_insert c.args.groups.now.items c.args.change.now.name.table c.in-Err.place c.in_ok-opened-in-Err.field-0 (sym c.in_ok-opened-in-Err.ensures.table) c.in_ok-opened-in-Err.ensures.before)

pub returns-in_err-opened-in-Err-clause-step : goal.returns-in_err-opened-in-Err-clause-step
returns-in_err-opened-in-Err-clause-step c = step_none _ _

pub returns-in_err-insert-in-Err-clause-step : goal.returns-in_err-insert-in-Err-clause-step
returns-in_err-insert-in-Err-clause-step c =
    subst (λ (gs : List Group). IsStep c.args.change.now.name.table c.args.groups.now.items gs) (sym c.in_err-insert-in-Err.ensures.items) (step_none c.args.change.now.name.table c.args.groups.now.items)
