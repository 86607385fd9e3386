use Rattle.std.proofs.Common.{◌≡◌, ◌++◌, filter, length}
use Rattle.plane_read.specs.Answered.{answered, has_priority}
use Rattle.plane_read.proofs.selecting.push_all.Given as goal

abbrev pub invariant-loop-entries : goal.invariant-loop-entries
invariant-loop-entries g l =
    l.answer ++ answered l.view (g.C.Counts.figures l.counts) l.plane.now.config.info (filter (has_priority l.priority) l.tables)
    ≡ l.initial.answer ++ answered l.view (g.C.Counts.figures l.counts) l.plane.now.config.info (filter (has_priority l.priority) l.plane.now.entries)

abbrev pub decreases-loop-entries : goal.decreases-loop-entries
decreases-loop-entries g l = length l.tables
