use Rattle.std.proofs.Common.{◌+◌, List, drop, fold, ap, ◌∙◌, sym, subst, arith}
use Rattle.std.specs.List.{All}
use Rattle.p4_types.specs.declared.info.Counter.{Counter}
use Rattle.plane_read.specs.Answered.{HasSlots}
use Rattle.plane_read.proofs.CellSteps.{All-placed, drop_step, sizes_step}
use Rattle.switch_spec.specs.declared.cells.Cells.{Cells}
use Rattle.plane_spec.specs.Shown.{placed}
use Rattle.switch_spec.specs.Reading.{cells_at}
use Rattle.plane_read.proofs.cells.sorted_cells.Goals as goal

pub loop-counter-preserved : goal.loop-counter-preserved
loop-counter-preserved c =
    let counters = c.args.counters.now in
    let counter = c.counter-item.result in
    let i = c.loop-counter.counter-index in
    let slot = c.loop-counter.slot in
    let cells : Cells = record { counter = counter.preamble.id; first = slot; size = counter.size } in
    let step : List Cells → Cells → List Cells = λ list x. placed (λ (cells : Cells). cells.counter) x list in
    let sizes = sizes_step counters counter i c.loop-counter-test.true c.counter-item.is in
    let own : HasSlots cells = record { within = omega (arith, sizes, c.loop-counter.invariant.room) } in
    record {
      sorted = ap (λ (list : List Cells). fold step list (cells_at (slot + counter.size) (drop (i + 1) counters))) c.in_ok-place.ensures
          ∙ ap (λ (list : List Counter). fold step c.loop-counter.sorted.items (cells_at slot list)) (sym (drop_step counters counter i c.loop-counter-test.true c.counter-item.is))
          ∙ c.loop-counter.invariant.sorted;
      room = omega (arith, sizes, c.loop-counter.invariant.room);
      slots = subst (All HasSlots) (sym c.in_ok-place.ensures) (All-placed HasSlots (λ (cells : Cells). cells.counter) cells c.loop-counter.sorted.items own c.loop-counter.invariant.slots);
    }
