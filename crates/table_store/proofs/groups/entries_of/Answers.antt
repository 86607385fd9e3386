use Rattle.std.proofs.Common.{sym, ap, ◌∙◌}
use Rattle.table_store.specs.declared.groups.Group.{Group}
use Rattle.table_store.proofs.ByTable.{entries_at, no_entries}
use Rattle.table_store.proofs.groups.entries_of.Goals as goal

pub returns-in-Ok : goal.returns-in-Ok
returns-in-Ok c = c.as_slice.ensures ∙ ap (λ (g : Group). g.entries.items) (sym c.index-groups-place.is) ∙ entries_at _ c.requires _ _ c.in-Ok.ensures.found _ c.index-groups-place.is

pub returns-in-Err : goal.returns-in-Err
returns-in-Err c = no_entries _ c.requires _ _ c.in-Err.ensures.absent
