use Rattle.std.proofs.Common.{◌≡◌, ◌++◌, map, take}
use Rattle.bm_rules.specs.Graphs.{table_edges}
use Rattle.bm_rules.proofs.edges.push_tables.Given as goal

abbrev pub invariant-loop-table : goal.invariant-loop-table
invariant-loop-table l = l.all ≡ l.initial.all ++ map (table_edges l.nodes.pipeline.now) (take l.table-index l.tables)
