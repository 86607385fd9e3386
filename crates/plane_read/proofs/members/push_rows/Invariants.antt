use Rattle.std.proofs.Common.{◌≡◌, ◌++◌, drop, filter, map}
use Rattle.plane_read.specs.Answered.{selects_member, answered_members}
use Rattle.plane_read.proofs.members.push_rows.Given as goal

abbrev pub invariant-loop-row : goal.invariant-loop-row
invariant-loop-row l =
    l.answer ++ answered_members l.info (filter (selects_member l.asked) (map (λ row. row.member) (drop l.row-index l.rows)))
    ≡ l.initial.answer ++ answered_members l.info (filter (selects_member l.asked) (map (λ row. row.member) l.rows))
