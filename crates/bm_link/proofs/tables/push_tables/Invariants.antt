use Rattle.std.proofs.Common.{◌≡◌, ◌++◌, map, take}
use Rattle.link_spec.specs.Tables.{table_of}
use Rattle.bm_link.specs.Sides.{side_of}
use Rattle.bm_link.proofs.tables.push_tables.Given as goal

abbrev pub invariant-loop-table : goal.invariant-loop-table
invariant-loop-table l = l.tables ≡ l.initial.tables ++ map (table_of l.scope.fields.raw.now l.scope.info.now (side_of l.side)) (take l.table-index l.side.pipeline.now.tables)
