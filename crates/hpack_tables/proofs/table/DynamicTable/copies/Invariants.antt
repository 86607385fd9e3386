use Rattle.std.proofs.Common.{◌≡◌, take}
use Rattle.hpack_tables.proofs.table.DynamicTable.copies.Given as goal

abbrev pub invariant-loop-place : goal.invariant-loop-place
invariant-loop-place l = l.entries ≡ take l.place l.self-inside.entries.items
