use Rattle.std.proofs.Common.{◌≡◌, ℕ, ◌<◌, length, slice_index_or}
use Rattle.byte_lanes.specs.Filling.{greeted}
use Rattle.byte_lanes.specs.Lane.{LaneState, IsLane}
use Rattle.lockstep_run.specs.Speaking.{MayGoOn}
use Rattle.lockstep_run.proofs.lanes.open_lanes.Given as goal

abbrev pub invariant-loop-lane : goal.invariant-loop-lane
invariant-loop-lane l = record {
  wide : length l.lanes.items ≡ l.lane;
  each : (place : ℕ) (other : LaneState) → place < l.lane → IsLane (slice_index_or l.lanes.items place other) (greeted place);
  session : l.speaker.session ≡ l.fn.speaker.session;
  short : l.speaker.is_short ≡ l.fn.speaker.is_short;
  goes_on : MayGoOn l.speaker;
}
