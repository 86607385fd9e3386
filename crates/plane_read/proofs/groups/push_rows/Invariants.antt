use Rattle.std.proofs.Common.{◌≡◌, ◌++◌, drop, filter, map}
use Rattle.plane_read.specs.Answered.{selects_group, answered_groups}
use Rattle.plane_read.proofs.groups.push_rows.Given as goal

abbrev pub invariant-loop-row : goal.invariant-loop-row
invariant-loop-row l =
    l.answer ++ answered_groups (filter (selects_group l.asked) (map (λ row. row.group) (drop l.row-index l.rows)))
    ≡ l.initial.answer ++ answered_groups (filter (selects_group l.asked) (map (λ row. row.group) l.rows))
