use Rattle.std.proofs.Common.{◌≡◌, drop}
use Rattle.std.specs.List.{list_all}
use Rattle.plane_spec.specs.UpdateRules.{refers_in}
use Rattle.plane_spec.specs.Objects.{table_of}
use Rattle.write_rules.proofs.sets.is_of_profile.Given as goal

abbrev pub invariant-loop-table : goal.invariant-loop-table
invariant-loop-table l = list_all (λ table. refers_in l.id (table_of table l.info)) (drop l.table-index l.table-items) ≡ list_all (λ table. refers_in l.id (table_of table l.info)) l.profile.table_ids
