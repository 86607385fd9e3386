use Rattle.std.proofs.Common.{◌++◌, ◌+◌, ◌-◌, ap, sym, ◌∙◌, append_assoc, append-nil, arith}
use Rattle.switch_spec.specs.Counts.{cell_line, cell_lines_from}
use Rattle.slot_totals.proofs.CellSteps.{cells_step, cells_over}
use Rattle.slot_totals.proofs.cells.push_lines.Goals as goal

pub loop-index-preserved : goal.loop-index-preserved
loop-index-preserved g c =
    let f = g.C.Counts.figures c.args.counts.now in
    let size = c.args.counter.now.size in
    let id = c.args.counter.now.preamble.id in
    let first = c.args.first in
    let index = c.loop-index.index in
    let rest = cell_lines_from (size - (index + 1)) f (first + (index + 1)) id (index + 1) in
    ap (λ lines. lines ++ rest) c.in_ok-push_line.ensures
    ∙ append_assoc c.loop-index.lines (cell_line f (first + index) id index) rest
    ∙ ap (λ lines. c.loop-index.lines ++ lines) (sym (cells_step f size first id index (omega (arith, c.min-kept.ensures))))
    ∙ c.loop-index.invariant

pub returns : goal.returns
returns g c =
    let over = cells_over (g.C.Counts.figures c.args.counts.now) c.args.slots c.args.counter.now.size c.args.first c.args.counter.now.preamble.id c.loop-index.index c.requires.blank (λ less. omega (arith, c.min-kept.ensures)) in
    sym (append-nil c.loop-index.lines) ∙ ap (λ lines. c.loop-index.lines ++ lines) (sym over) ∙ c.loop-index.invariant
