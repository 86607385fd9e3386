use Rattle.std.proofs.Common.{◌≡◌, ◌++◌, drop, filter}
use Rattle.switch_spec.specs.Reading.{is_asked}
use Rattle.plane_read.specs.Answered.{answered_defaults}
use Rattle.plane_read.proofs.defaults.push_each.Given as goal

abbrev pub invariant-loop-table : goal.invariant-loop-table
invariant-loop-table l =
    l.answer ++ answered_defaults l.plane.now (filter (is_asked l.asked) (drop l.table-index l.tables))
    ≡ l.initial.answer ++ answered_defaults l.plane.now (filter (is_asked l.asked) l.tables)
