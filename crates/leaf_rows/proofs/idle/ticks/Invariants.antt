use Rattle.std.proofs.Common.{◌≡◌, length}
use Rattle.leaf_rows.proofs.idle.ticks.Given as goal

abbrev pub invariant-loop-step : goal.invariant-loop-step
invariant-loop-step l = (l.seat.stamps ≡ l.initial.seat.stamps) × (length l.idle.untold ≡ length l.initial.idle.untold)
