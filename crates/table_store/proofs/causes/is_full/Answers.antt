use Rattle.table_store.specs.Groups.{flat}
use Rattle.table_store.proofs.OfTable.{full_by_size, full_by_room}
use Rattle.table_store.proofs.causes.is_full.Goals as goal

pub returns-then-table_size-entries : goal.returns-then-table_size-entries
returns-then-table_size-entries c = full_by_size c.args.table.now c.args.rows c.args.room (flat c.args.groups.now) _ _ c.entries_of.ensures c.table_size.ensures c.if-table_size-entries.true

pub returns-else-table_size-entries : goal.returns-else-table_size-entries
returns-else-table_size-entries c = full_by_room c.args.table.now c.args.rows c.args.room (flat c.args.groups.now) _ _ _ c.entries_of.ensures c.table_size.ensures c.if-table_size-entries.false c.lacks_room.ensures
