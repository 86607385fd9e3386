-- What the calls of a pass make of the events of its caller, and the packets that they make enter.
use Rattle.std.specs.Prelude.{◌≡◌, ℕ, ◌≤◌, ◌++◌, if◌then◌else◌, true, List, [], Option, is_some}
use Rattle.ctl_core.specs.Core.{raised}
use Rattle.live_desk.specs.Callers.{events_by}
use Rattle.live_desk.specs.Locked.{figures_of}
use Rattle.live_desk.specs.Mailing.{IsAsked}
use Rattle.live_desk.specs.Passing.{IsCalled, Passing}
use Rattle.p4_types.specs.declared.calls.Call.{Call}
use Rattle.p4_types.specs.declared.calls.Reply.{Reply}
use Rattle.plane_spec.specs.Config.{Event}
use Rattle.pub_snap.specs.Beginnings.{Beginning}
use Rattle.snap_worker.specs.Working.{state_after}
use Rattle.switch_spec.specs.Answer.{answer_to}
use Rattle.switch_spec.specs.History.{is_unavailable}

-- the events of a lane's call of this number that was made behind this list; one that is refused for memory has none
abbrev pub events_of_call : Call → Reply → ℕ → ℕ → Beginning → Option (List (ℕ × ℕ)) → List Event
events_of_call call reply lane number base figures =
    if is_unavailable reply.code then [] else (answer_to (state_after base) (figures_of figures) lane number call).events

-- a call adds its own events to those of its caller, and none else is among them
abbrev pub OwnGoOn : Type 0
OwnGoOn = (call : Call) (reply : Reply) (before after : Passing) (called : IsCalled call reply before after)
    → events_by before.lane after.last.events ≡ events_by before.lane before.last.events ++ events_of_call call reply before.lane (raised before.calls 1) called.base called.figures

-- a packet that a call made enter is run after at least the steps through the call
abbrev pub RunsBehindItsCall : Type 0
RunsBehindItsCall = (cpu : ℕ) (call : Call) (shown : Reply) (before after : Passing) (asked : IsAsked cpu call shown before after) → is_some shown.packet ≡ true → shown.steps ≤ after.worker.steps
