-- Who made the events of the published list (this project's profile).
use Rattle.std.specs.Prelude.{◌≡◌, ℕ, ◌==◌, Bool, false, List, count_by, filter, sum_by}
use Rattle.live_desk.specs.declared.call_steps.CallSteps.{CallSteps}
use Rattle.p4_types.specs.declared.events.Event.TheVariants as events
use Rattle.plane_spec.specs.Config.{Event}

-- whether a caller made an event; nobody made Close
abbrev pub is_by : ℕ → Event → Bool
is_by caller (events.Arbitrate by config) = by.caller == caller
is_by caller (events.Leave other call) = other == caller
is_by caller (events.Change by change) = by.caller == caller
is_by caller (events.Batch by list) = by.caller == caller
is_by caller (events.Save by config) = by.caller == caller
is_by caller (events.Commit by content) = by.caller == caller
is_by caller events.Close = false

-- the events that a caller made, in their order
abbrev pub events_by : ℕ → List Event → List Event
events_by caller list = filter (λ event. is_by caller event) list

-- a list has of a caller as many events as these calls of its made steps
abbrev pub IsCounted : ℕ → List Event → List CallSteps → Type 0
IsCounted caller list made = count_by (λ event. is_by caller event) list ≡ sum_by (λ call. call.steps) made
