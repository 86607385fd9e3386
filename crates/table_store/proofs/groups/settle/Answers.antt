use Rattle.std.proofs.Common.{◌∙◌, sym}
use Rattle.table_store.proofs.ByTable.{here, flat_same, groups_set}
use Rattle.table_store.proofs.Undo.{less_set, less_gap}
use Rattle.table_store.proofs.groups.settle.Goals as goal

pub settle-requires : goal.settle-requires
settle-requires c = here _ c.requires _ _ (rw c.deref.ensures.value at c.in-Ok.ensures.found) _ c.index_mut-group.ensures.value

pub returns-in-Ok-clause-entries : goal.returns-in-Ok-clause-entries
returns-in-Ok-clause-entries c = flat_same _ c.requires _ _ (rw c.deref.ensures.value at c.in-Ok.ensures.found) _ c.index_mut-group.ensures.value _ c.settle.ensures.items

pub returns-in-Ok-clause-groups : goal.returns-in-Ok-clause-groups
returns-in-Ok-clause-groups c = groups_set _ c.requires _ _ (rw c.deref.ensures.value at c.in-Ok.ensures.found) _ c.index_mut-group.ensures.value _ c.settle.ensures.table c.settle.ensures.group

pub returns-in-Ok-clause-touched : goal.returns-in-Ok-clause-touched
returns-in-Ok-clause-touched c = less_set _ c.requires _ _ (rw c.deref.ensures.value at c.in-Ok.ensures.found) _ c.index_mut-group.ensures.value _ (c.settle.ensures.before ∙ sym c.settle.ensures.items)

pub returns-in_default-clause-touched : goal.returns-in_default-clause-touched
returns-in_default-clause-touched c = less_gap _ _ _ (rw c.deref.ensures.value at c.in_default.ensures.absent)
