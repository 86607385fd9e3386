use Rattle.std.proofs.Common.{◌≡◌, ◌++◌, drop, filter}
use Rattle.std.specs.List.{flat_map}
use Rattle.plane_read.specs.Answered.{answered_cells}
use Rattle.switch_spec.specs.declared.cells.Cells.{Cells}
use Rattle.switch_spec.specs.Reading.{is_asked_id, selected_cells}
use Rattle.plane_read.proofs.cells.push_each.Given as goal

abbrev pub invariant-loop-counter : goal.invariant-loop-counter
invariant-loop-counter g l =
    l.answer ++ answered_cells (flat_map (selected_cells (g.C.Counts.figures l.counts) l.asked.index) (filter (λ (cells : Cells). is_asked_id l.asked.counter_id cells.counter) (drop l.counter-index l.list)))
    ≡ l.initial.answer ++ answered_cells (flat_map (selected_cells (g.C.Counts.figures l.counts) l.asked.index) (filter (λ (cells : Cells). is_asked_id l.asked.counter_id cells.counter) l.list))
