use Rattle.std.proofs.Common.{◌≡◌, ℕ, ◌≤◌, length, slice_index_or}
use Rattle.std.specs.List.{filter_map}
use Rattle.p4rt_service.specs.Turns.{Served}
use Rattle.run_spec.specs.Text.{count_up}
use Rattle.byte_lanes.specs.Lane.{LaneState}
use Rattle.lockstep_run.specs.Playing.{AreLanes}
use Rattle.lockstep_run.specs.Telling.{line_of}
use Rattle.lockstep_run.proofs.lanes.sent_lines.Given as goal

abbrev pub invariant-loop-lane : goal.invariant-loop-lane
invariant-loop-lane l = record {
  wide : length l.lanes ≡ 32;
  untold : (place : ℕ) (other : LaneState) → l.lane ≤ place → slice_index_or l.lanes place other ≡ slice_index_or l.fn.lanes place other;
  so_far : (served : ℕ → Served) → AreLanes l.fn.lanes served → l.sent ≡ filter_map (line_of l.fn.items l.fn.journal served) (count_up 0 l.lane);
}
