use Rattle.std.proofs.Common.{◌+◌, ◌-◌, List, [], ◌∷◌, ◌++◌, ap, ◌∙◌, sym, append_assoc}
use Rattle.p4_types.specs.declared.messages.CounterEntry.{CounterEntry}
use Rattle.p4_types.specs.declared.messages.Entity.{Entity}
use Rattle.p4_types.specs.declared.messages.Entity.TheVariants as entities
use Rattle.plane_read.specs.Answered.{answered_cells}
use Rattle.plane_read.proofs.CellSteps.{cells_step}
use Rattle.switch_spec.specs.Reading.{shown_cell, shown_cells}
use Rattle.plane_read.proofs.cells.push_all.Goals as goal

pub loop-index-preserved : goal.loop-index-preserved
loop-index-preserved g c =
    let figures = g.C.Counts.figures c.args.counts.now in
    let size = c.args.cells.size in
    let id = c.args.cells.counter in
    let first = c.args.cells.first in
    let index = c.loop-index.index in
    let own = shown_cell figures id (first + index) index in
    let rest = answered_cells (shown_cells (size - (index + 1)) figures id (first + (index + 1)) (index + 1)) in
    let pushed = c.in_ok-push.ensures.ok ∙ ap (λ (cell : CounterEntry). c.loop-index.answer ++ entities.CounterEntry cell ∷ []) c.shown_cell-cell.ensures in
    ap (λ (list : List Entity). list ++ rest) pushed
    ∙ append_assoc c.loop-index.answer (entities.CounterEntry own ∷ []) rest
    ∙ ap (λ (list : List CounterEntry). c.loop-index.answer ++ answered_cells list) (sym (cells_step figures size first id index c.loop-index-test.true))
    ∙ c.loop-index.invariant
