use Rattle.std.proofs.Common.{◌∙◌, arith}
use Rattle.slot_totals.proofs.CellSteps.{counters_step}
use Rattle.slot_totals.proofs.cells.push_all.Goals as goal

pub loop-counter-preserved : goal.loop-counter-preserved
loop-counter-preserved g c =
    counters_step (g.C.Counts.figures c.args.counts.now) c.args.slots c.args.counters.now c.counter-item.result c.loop-counter.counter-index c.loop-counter.slot _ _ _ c.requires.blank c.loop-counter-test.true c.counter-item.is
    (λ less. omega arith) (λ le. omega arith) c.in_ok-push_lines.ensures
    ∙ c.loop-counter.invariant
