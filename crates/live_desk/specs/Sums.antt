-- What a call saw of the counters (this project's profile).
use Rattle.std.specs.Prelude.{◌≡◌, Bool, false}
use Rattle.p4_types.specs.declared.calls.Call.{Call}
use Rattle.p4_types.specs.declared.calls.Call.TheVariants as calls
use Rattle.snap_worker.specs.Sums.{SeatLooks}
use Rattle.snap_worker.specs.Working.{Working}
use Rattle.switch_spec.specs.Reading.{asks_counters}

-- whether a call reads counters
abbrev pub reads_counters : Call → Bool
reads_counters (calls.Read request) = asks_counters request
reads_counters _ = false

-- the worker's seat looked at counters, and nothing else of the worker changed
pub record HasLooked (before after : Working) : Type 0 where
  pub others : after ≡ record before { seat = after.seat }
  pub seat : SeatLooks before.seat after.seat
