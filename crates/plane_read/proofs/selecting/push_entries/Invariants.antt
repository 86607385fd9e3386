use Rattle.std.proofs.Common.{◌≡◌, ◌++◌, drop, filter}
use Rattle.plane_read.specs.Answered.{answered, has_priority}
use Rattle.plane_read.proofs.selecting.push_entries.Given as goal

abbrev pub invariant-loop-entry : goal.invariant-loop-entry
invariant-loop-entry g l =
    l.answer ++ answered l.view (g.C.Counts.figures l.counts) l.info (filter (has_priority l.priority) (drop l.entry-index l.entries))
    ≡ l.initial.answer ++ answered l.view (g.C.Counts.figures l.counts) l.info (filter (has_priority l.priority) l.entries)
