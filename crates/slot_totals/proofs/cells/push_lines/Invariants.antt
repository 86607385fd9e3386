use Rattle.std.proofs.Common.{◌≡◌, ◌+◌, ◌-◌, ◌++◌}
use Rattle.switch_spec.specs.Counts.{cell_lines_from}
use Rattle.slot_totals.proofs.cells.push_lines.Given as goal

abbrev pub invariant-loop-index : goal.invariant-loop-index
invariant-loop-index g l =
    l.lines ++ cell_lines_from (l.counter.size - l.index) (g.C.Counts.figures l.counts) (l.first + l.index) l.counter.preamble.id l.index
    ≡ l.initial.lines ++ cell_lines_from l.counter.size (g.C.Counts.figures l.counts) l.first l.counter.preamble.id 0
