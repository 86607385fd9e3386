use Rattle.std.proofs.Common.{◌∙◌, sym}
use Rattle.table_store.proofs.ByTable.{groups_set}
use Rattle.table_store.proofs.Undo.{less_set, less_gap, was_at, restored_was, restored_kept}
use Rattle.table_store.proofs.groups.restore.Goals as goal

pub restore-requires : goal.restore-requires
restore-requires c = was_at _ _ _ (rw c.deref.ensures.value at c.in-Ok.ensures.found).in_range c.index_mut-group.ensures.value c.requires.kept

pub returns-in-Ok-clause-before : goal.returns-in-Ok-clause-before
returns-in-Ok-clause-before c = restored_was c.args.groups.now.items c.in-Ok.place c.index_mut-group.result.now c.restore.new.group c.index_mut-group.ensures.value c.restore.ensures.before

pub returns-in-Ok-clause-groups : goal.returns-in-Ok-clause-groups
returns-in-Ok-clause-groups c = groups_set _ c.requires.groups _ _ (rw c.deref.ensures.value at c.in-Ok.ensures.found) _ c.index_mut-group.ensures.value _ c.restore.ensures.table c.restore.ensures.group

pub returns-in-Ok-clause-kept : goal.returns-in-Ok-clause-kept
returns-in-Ok-clause-kept c = restored_kept _ _ _ c.restore.ensures.was c.requires.kept

pub returns-in-Ok-clause-touched : goal.returns-in-Ok-clause-touched
returns-in-Ok-clause-touched c = less_set _ c.requires.groups _ _ (rw c.deref.ensures.value at c.in-Ok.ensures.found) _ c.index_mut-group.ensures.value _ (c.restore.ensures.before ∙ sym c.restore.ensures.items)

pub returns-in_default-clause-touched : goal.returns-in_default-clause-touched
returns-in_default-clause-touched c = less_gap _ _ _ (rw c.deref.ensures.value at c.in_default.ensures.absent)
