use Rattle.std.proofs.Common.{◌≡◌, drop, map, fold}
use Rattle.plane_spec.specs.Shown.{placed}
use Rattle.switch_spec.specs.Reading.{table_ids}
use Rattle.plane_read.proofs.defaults.table_ids.Given as goal

abbrev pub invariant-loop-table : goal.invariant-loop-table
invariant-loop-table l = fold (λ sorted x. placed (λ id. id) x sorted) l.ids.items (map (λ table. table.preamble.id) (drop l.table-index l.table-items)) ≡ table_ids l.info
