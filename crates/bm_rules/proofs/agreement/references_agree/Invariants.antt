use Rattle.std.proofs.Common.{◌≡◌, take, true}
use Rattle.std.specs.List.{list_all}
use Rattle.bm_rules.specs.Agreement.{table_named, table_has_references}
use Rattle.bm_rules.proofs.agreement.references_agree.Given as goal

abbrev pub invariant-loop-table : goal.invariant-loop-table
invariant-loop-table l = list_all (λ table. table_has_references l.raw l.info table (table_named l.raw table.preamble.name)) (take l.table-index l.table-items) ≡ true
