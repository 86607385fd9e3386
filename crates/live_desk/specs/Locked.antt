-- What stands behind the lock, and what one call makes of it.
use Rattle.std.specs.Prelude.{◌≡◌, ℕ, ◌+◌, ◌<◌, ◌≤◌, ◌-◌, ◌^◌, min, true, List, [], length, sum_by, slice_index, Option, Some, None, IfNone, IfSome}
use Rattle.counter_bank.specs.Account.{Opened}
use Rattle.ctl_core.specs.Core.{Core, Handled, raised}
use Rattle.lane_table.specs.Lanes.{Journal, Lane, LaneTableId, of_lane}
use Rattle.live_desk.specs.Callers.{IsCounted}
use Rattle.snap_worker.specs.Sums.{figures_in}
use Rattle.live_desk.specs.declared.call_steps.CallSteps.{CallSteps}
use Rattle.p4_types.specs.declared.calls.Call.{Call}
use Rattle.p4_types.specs.declared.calls.Reply.{Reply}
use Rattle.plane_image.specs.Image.{steps_of}
use Rattle.plane_spec.specs.Config.{Event}
use Rattle.plane_spec.specs.Legal.{Legal}
use Rattle.plane_spec.specs.Planes.{opened}
use Rattle.pub_snap.specs.Beginnings.{Beginning, Begins}
use Rattle.pub_snap.specs.Snapshots.{steps_in}
use Rattle.snap_worker.specs.Working.{state_after}
use Rattle.switch_spec.specs.Answer.{answer_to}
use Rattle.switch_spec.specs.Counts.{Figures}
use Rattle.switch_spec.specs.History.{is_unavailable}

-- what is kept behind the lock
pub record Locking : Type 0 where
  -- what is published
  pub told : Beginning
  -- the calls that were made, in their order
  pub made : List CallSteps

-- the seat of all calls, of 32 lanes
abbrev pub seat_of : LaneTableId → List CallSteps → Journal CallSteps
seat_of table made = record { table = table; entries = made; lanes = 32 }

-- the calls of a lane
abbrev pub calls_on : ℕ → List CallSteps → List CallSteps
calls_on lane made = of_lane (λ (call : CallSteps). call.lane) lane made

-- the list has of each lane as many events as its calls made steps
abbrev pub AreCounted : List Event → List CallSteps → Type 0
AreCounted list made = (lane : ℕ) → IsCounted lane list (calls_on lane made)

-- The control is that after the published list, of which each event is one step. It has counted each lane's calls, up to the greatest
-- number, and the list has of each lane as many events as its calls made steps.
pub record IsStanding (told : Beginning) (core : Core) (made : List CallSteps) : Type 0 where
  pub control : core.control ≡ state_after told
  pub steps : core.steps ≡ length told.events
  pub each_step : sum_by steps_of told.events ≡ length told.events
  pub wide : length core.calls ≡ 32
  pub calls : (lane : ℕ) → lane < 32 → slice_index core.calls lane ≡ min (length (calls_on lane made)) (2 ^ 64 - 1)
  pub own : AreCounted told.events made

-- the figures that a call saw; without memory for them it saw none
abbrev pub figures_of : Option (List (ℕ × ℕ)) → Figures
figures_of None = figures_in []
figures_of (Some loaded) = figures_in loaded

-- Behind this list a lane's call of this number, which saw these figures, was answered, and its events were published; or there was
-- no memory for it, and the list did not go on. The reply tells the steps of the list with the call's events.
pub record IsMade (lane number : ℕ) (call : Call) (figures : Option (List (ℕ × ℕ))) (base : Beginning) (reply : Reply) (told : Beginning) : Type 0 where
  pub list : told.list ≡ base.list
  pub start : told.start ≡ base.start
  pub legal : Legal (opened told.start) told.events
  pub refused : IfNone figures (is_unavailable reply.code ≡ true)
  pub steps : reply.steps ≡ steps_in told.events
  pub handled : Handled (state_after base) (length base.events) base.events (answer_to (state_after base) (figures_of figures) lane number call) reply (state_after told) told.events

-- Such a call was made as the next of a lane's own, behind this list, and signed: the seat of the lane is this before and behind it. The
-- list has no event of the lane but those that its own calls made, before the call and behind it.
pub record IsSigned (lane : ℕ) (call : Call) (figures : Option (List (ℕ × ℕ))) (base : Beginning) (before after : Lane CallSteps) (reply : Reply) (told : Beginning) : Type 0 where
  pub made : IsMade lane (raised (length before.entries) 1) call figures base reply told
  pub begins : Begins base told
  pub own_before : IsCounted lane base.events before.entries
  pub own_after : IsCounted lane told.events after.entries
  pub one : length after.entries ≡ length before.entries + 1
  -- a packet that it makes enter is short
  pub size : IfSome reply.packet (λ packet. length packet ≤ 9216)

-- what is left of a desk: the whole list, and the counters
pub record Closing : Type 0 where
  pub told : Beginning
  pub bank : Opened
