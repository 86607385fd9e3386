-- What the image makes of any event, also of one that may not follow.
use Rattle.std.specs.Prelude.{◌≡◌, ℕ, ◌+◌, nat_lt, Bool, true, not, if◌then◌else◌}
use Rattle.p4_types.specs.declared.events.Committed.TheVariants as contents
use Rattle.p4_types.specs.declared.events.Event.TheVariants as events
use Rattle.plane_spec.specs.Config.{Config, Committed, Event, cells_in}
use Rattle.plane_spec.specs.Legal.{May}
use Rattle.plane_spec.specs.Planes.{ControlState, apply, session_by}
use Rattle.plane_image.specs.Image.{steps_of}
use Rattle.role_arbiter.specs.Arbitration.{is_refused}

-- there are slots for the cells of a configuration
abbrev pub has_slots : ControlState → Config → Bool
has_slots c config = not (nat_lt c.slots (c.next_slot + cells_in config))

-- the same of what is committed; what is staged has its slots
abbrev pub has_slots_in : ControlState → Committed → Bool
has_slots_in c contents.Staged = true
has_slots_in c (contents.Fresh config) = has_slots c config

-- an event can be taken where no rule refuses its session and there are slots for its cells
abbrev pub can_take : ControlState → Event → Bool
can_take c (events.Arbitrate by config) = not (is_refused c.roles (session_by by config))
can_take c (events.Save by config) = has_slots c config
can_take c (events.Commit by content) = has_slots_in c content
can_take c event = true

-- the state after an event that is taken; any other leaves it
abbrev pub taken : ControlState → Event → ControlState
taken c event = if can_take c event then apply c event else c

-- how many steps that is
abbrev pub steps_taken : ControlState → Event → ℕ
steps_taken c event = if can_take c event then steps_of event else 0

-- each event that may follow can be taken
abbrev pub MayIsTaken : Type 0
MayIsTaken = (c : ControlState) (event : Event) → May c event → can_take c event ≡ true
