use Rattle.std.proofs.Common.{◌≡◌, ◌++◌, drop}
use Rattle.std.specs.List.{filter_map}
use Rattle.plane_spec.specs.Config.{own_default}
use Rattle.plane_state.proofs.config.own_defaults.Given as goal

abbrev pub invariant-loop-table : goal.invariant-loop-table
invariant-loop-table l = (l.defaults ++ filter_map own_default (drop l.table-index l.table-items) ≡ filter_map own_default l.table-items) × (l.table-items ≡ l.fn.program.tables)
