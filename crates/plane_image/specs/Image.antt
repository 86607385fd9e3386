-- The control state as the program keeps it.
use Rattle.std.specs.Prelude.{ℕ, ◌<◌, ◌≤◌, ◌+◌, ◌-◌, ◌^◌, Bool, All, Option, Some, None, option_map, Result, Err}
use Rattle.p4_types.specs.declared.code.Cause.{Cause}
use Rattle.p4_types.specs.declared.code.Code.TheVariants as codes
use Rattle.p4_types.specs.declared.code.Rule.TheVariants as rules
use Rattle.p4_types.specs.declared.events.Event.TheVariants as events
use Rattle.p4_types.specs.declared.messages.Update.{Update}
use Rattle.p4_types.specs.declared.table.Change.{Change}
use Rattle.p4_types.specs.declared.table.Room.{Room}
use Rattle.plane_spec.specs.Config.{Event, cells_in}
use Rattle.plane_spec.specs.Planes.{ControlState, Plane, target, scope_of}
use Rattle.plane_spec.specs.Updates.{resolution}
use Rattle.plane_state.specs.declared.parts.Drawn.{Drawn}
use Rattle.plane_state.specs.Versions.{PlaneVersions, plane_after, drawn_by}
use Rattle.role_arbiter.specs.State.{RolesState}

-- the control state as it is, and as it was before the changes that can be undone; and how many steps there were
pub record ImageVersions : Type 0 where
  pub now : ControlState
  pub before : ControlState
  pub steps : ℕ

-- the active and the staged plane as they are, and as they were before the changes that can be undone
pub record PlanesVersions : Type 0 where
  pub active : Option Plane
  pub staged : Option Plane
  pub former_active : Option Plane
  pub former_staged : Option Plane

-- both as they were before
abbrev pub undone : PlanesVersions → PlanesVersions
undone planes = record { active = planes.former_active; staged = planes.former_staged; former_active = planes.former_active; former_staged = planes.former_staged }

-- the control state from its parts
abbrev pub control_of : (device cpu rows slots : ℕ) → RolesState → (active staged : Option Plane) → (next next_slot : ℕ) → Bool → ControlState
control_of device cpu rows slots roles active staged next next_slot closed = record {
  device = device;
  cpu = cpu;
  rows = rows;
  slots = slots;
  roles = roles;
  active = active;
  staged = staged;
  next = next;
  next_slot = next_slot;
  closed = closed;
}

-- a plane as it is
abbrev pub now_of : Option PlaneVersions → Option Plane
now_of plane = option_map (λ p. p.now) plane

-- a plane as it was before the changes that can be undone
abbrev pub before_of : Option PlaneVersions → Option Plane
before_of plane = option_map (λ p. p.before) plane

-- every entry of a plane has drawn its number
abbrev pub BelowIn : ℕ → Option Plane → Type 0
BelowIn next None = Unit {0}
BelowIn next (Some plane) = All (λ entry. entry.seq < next) plane.entries

-- every cell of a plane's counters has drawn its slot
abbrev pub CellsBelowIn : ℕ → Option Plane → Type 0
CellsBelowIn next None = Unit {0}
CellsBelowIn next (Some plane) = plane.cells + cells_in plane.config ≤ next

-- there are no more numbers and slots than there are, and the entries and cells have drawn theirs
pub record IsNumbered (c : ControlState) : Type 0 where
  pub active : BelowIn c.next c.active
  pub staged : BelowIn c.next c.staged
  pub active_cells : CellsBelowIn c.next_slot c.active
  pub staged_cells : CellsBelowIn c.next_slot c.staged
  pub numbers : c.next ≤ 2 ^ 64 - 1
  pub slots : c.next_slot ≤ c.slots

-- numbered now and before
pub record IsImage (i : ImageVersions) : Type 0 where
  pub now : IsNumbered i.now
  pub before : IsNumbered i.before

-- a plane after a change that is not refused, if there is a plane
abbrev pub after_in : Option Plane → Room → Change → Option Plane
after_in None room change = None
after_in (Some plane) room change = Some (plane_after room plane change)

-- what a change of it draws
abbrev pub drawn_in : Option Plane → Change → Drawn
drawn_in None change = record { numbers = 0; slots = 0 }
drawn_in (Some plane) change = drawn_by plane change

-- what an update changes in a plane by the rules that ask for the program alone; without a plane no table is known
abbrev pub resolved_in : Option Plane → ControlState → ℕ → Update → Result Change Cause
resolved_in None c role update = Err (record { rule = rules.U3; code = codes.NotFound })
resolved_in (Some plane) c role update = resolution plane.config.info (scope_of c role) update

-- the same in the target plane
abbrev pub resolved : ControlState → ℕ → Update → Result Change Cause
resolved c role update = resolved_in (target c) c role update

-- how many steps an event is: the end of the list is none
abbrev pub steps_of : Event → ℕ
steps_of events.Close = 0
steps_of event = 1
