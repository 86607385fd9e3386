use Rattle.std.proofs.Common.{◌≡◌, ◌+◌, ◌≤◌, drop, fold}
use Rattle.std.specs.List.{All, sum_by}
use Rattle.p4_types.specs.declared.info.Counter.{Counter}
use Rattle.plane_spec.specs.Entries.{slot_numbers}
use Rattle.plane_read.specs.Answered.{HasSlots}
use Rattle.switch_spec.specs.declared.cells.Cells.{Cells}
use Rattle.plane_spec.specs.Shown.{placed, by_rising}
use Rattle.switch_spec.specs.Reading.{cells_at}
use Rattle.plane_read.proofs.cells.sorted_cells.Given as goal

abbrev pub invariant-loop-counter : goal.invariant-loop-counter
invariant-loop-counter l = record {
  sorted : fold (λ list x. placed (λ (cells : Cells). cells.counter) x list) l.sorted.items (cells_at l.slot (drop l.counter-index l.counters)) ≡ by_rising (λ (cells : Cells). cells.counter) (cells_at l.first l.counters);
  room : l.slot + sum_by (λ (counter : Counter). counter.size) (drop l.counter-index l.counters) ≤ slot_numbers;
  slots : All HasSlots l.sorted.items;
}
