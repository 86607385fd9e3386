use Rattle.std.proofs.Common.{◌≡◌, ◌+◌, ◌-◌, ◌++◌}
use Rattle.plane_read.specs.Answered.{answered_cells}
use Rattle.switch_spec.specs.Reading.{shown_cells}
use Rattle.plane_read.proofs.cells.push_all.Given as goal

abbrev pub invariant-loop-index : goal.invariant-loop-index
invariant-loop-index g l =
    l.answer ++ answered_cells (shown_cells (l.cells.size - l.index) (g.C.Counts.figures l.counts) l.cells.counter (l.cells.first + l.index) l.index)
    ≡ l.initial.answer ++ answered_cells (shown_cells l.cells.size (g.C.Counts.figures l.counts) l.cells.counter l.cells.first 0)
