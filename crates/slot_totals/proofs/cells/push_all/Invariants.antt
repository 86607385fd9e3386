use Rattle.std.proofs.Common.{◌≡◌, ◌++◌, drop}
use Rattle.switch_spec.specs.Counts.{cell_lines_of}
use Rattle.slot_totals.proofs.cells.push_all.Given as goal

abbrev pub invariant-loop-counter : goal.invariant-loop-counter
invariant-loop-counter g l =
    l.lines ++ cell_lines_of (g.C.Counts.figures l.counts) l.slot (drop l.counter-index l.counters) ≡ l.initial.lines ++ cell_lines_of (g.C.Counts.figures l.counts) l.first l.counters
