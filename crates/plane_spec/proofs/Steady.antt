-- A change of the target plane leaves all else as it was.
use Rattle.std.proofs.Common.{◌≡◌, ◌+◌, ◌≤◌, Bool, true, false, List, [], ◌∷◌, fold, length, Option, Some, None, is_some, cond, refl, ◌∙◌, arith}
use Rattle.p4_types.specs.declared.code.Cause.{Cause}
use Rattle.p4_types.specs.declared.events.Committed.TheVariants as contents
use Rattle.p4_types.specs.declared.events.Event.TheVariants as events
use Rattle.p4_types.specs.declared.events.Start.{Start}
use Rattle.p4_types.specs.declared.info.Table.{Table}
use Rattle.p4_types.specs.declared.table.Change.{Change}
use Rattle.p4_types.specs.declared.table.Change.TheVariants as changes
use Rattle.p4_types.specs.declared.table.EntryChange.{EntryChange}
use Rattle.plane_spec.specs.Config.{Committed, Event}
use Rattle.plane_spec.specs.Planes.{ControlState, Plane, target, with_target, inserted_in, changed, changed_unless, changed_in, change_applied, staged_committed, committed, apply, applied, opened}

-- A change leaves open what is open, the roles and the limit of slots as they are, and draws one number at most.
pub record IsSteady (c d : ControlState) : Type 0 where
  pub closed : d.closed ≡ c.closed
  pub roles : d.roles ≡ c.roles
  pub slots : d.slots ≡ c.slots
  pub next : d.next ≤ c.next + 1

steady_refl : (c : ControlState) → IsSteady c c
steady_refl c = record { closed = refl; roles = refl; slots = refl; next = omega arith }

-- the same but for the planes
record IsSame (c d : ControlState) : Type 0 where
  closed : d.closed ≡ c.closed
  roles : d.roles ≡ c.roles
  slots : d.slots ≡ c.slots
  next : d.next ≡ c.next

target_by : (b : Bool) (c : ControlState) (plane : Plane) → IsSame c (cond b (record c { staged = Some plane }) (record c { active = Some plane }))
target_by true c plane = record { closed = refl; roles = refl; slots = refl; next = refl }
target_by false c plane = record { closed = refl; roles = refl; slots = refl; next = refl }

same_target : (c : ControlState) (plane : Plane) → IsSame c (with_target c plane)
same_target c plane = target_by (is_some c.staged) c plane

target_steady : (c : ControlState) (plane : Plane) → IsSteady c (with_target c plane)
target_steady c plane = let same = same_target c plane in record { closed = same.closed; roles = same.roles; slots = same.slots; next = omega (arith, same.next) }

inserted_steady : (o : Option Table) (c : ControlState) (plane : Plane) (change : EntryChange) → IsSteady c (inserted_in o c plane change)
inserted_steady None c plane change = steady_refl c
inserted_steady (Some table) c plane change = let same = same_target c _ in record { closed = same.closed; roles = same.roles; slots = same.slots; next = omega arith }

changed_steady : (change : Change) (c : ControlState) (plane : Plane) → IsSteady c (changed c plane change)
changed_steady (changes.InsertEntry change) c plane = inserted_steady _ c plane change
changed_steady (changes.ModifyEntry change) c plane = target_steady c _
changed_steady (changes.DeleteEntry name) c plane = target_steady c _
changed_steady (changes.ModifyDefault table action) c plane = target_steady c _
changed_steady (changes.Profile change) c plane = target_steady c _
changed_steady (changes.Digest change) c plane = target_steady c _
changed_steady (changes.Multicast change) c plane = target_steady c _

unless_steady : (o : Option Cause) (change : Change) (c : ControlState) (plane : Plane) → IsSteady c (changed_unless o c plane change)
unless_steady None change c plane = changed_steady change c plane
unless_steady (Some cause) change c plane = steady_refl c

in_steady : (o : Option Plane) (change : Change) (c : ControlState) → IsSteady c (changed_in o c change)
in_steady None change c = steady_refl c
in_steady (Some plane) change c = unless_steady _ change c plane

pub change_steady : (change : Change) (c : ControlState) → IsSteady c (change_applied c change)
unfolding change_applied
change_steady change c = in_steady (target c) change c

pub fold_closed : (list : List Change) (c : ControlState) → (fold change_applied c list).closed ≡ c.closed
fold_closed [] c = refl
fold_closed (change ∷ list) c = fold_closed list (change_applied c change) ∙ (change_steady change c).closed

pub fold_roles : (list : List Change) (c : ControlState) → (fold change_applied c list).roles ≡ c.roles
fold_roles [] c = refl
fold_roles (change ∷ list) c = fold_roles list (change_applied c change) ∙ (change_steady change c).roles

pub fold_slots : (list : List Change) (c : ControlState) → (fold change_applied c list).slots ≡ c.slots
fold_slots [] c = refl
fold_slots (change ∷ list) c = fold_slots list (change_applied c change) ∙ (change_steady change c).slots

pub fold_next : (list : List Change) (c : ControlState) → (fold change_applied c list).next ≤ c.next + length list
fold_next [] c = omega arith
fold_next (change ∷ list) c = omega (arith, fold_next list (change_applied c change), (change_steady change c).next)

committed_slots : (o : Option Plane) (c : ControlState) → (staged_committed o c).slots ≡ c.slots
committed_slots None c = refl
committed_slots (Some plane) c = refl

content_slots : (content : Committed) (c : ControlState) → (committed c content).slots ≡ c.slots
content_slots contents.Staged c = committed_slots c.staged c
content_slots (contents.Fresh config) c = refl

-- no event changes how many slots there are
pub event_slots : (event : Event) (c : ControlState) → (apply c event).slots ≡ c.slots
event_slots (events.Arbitrate by config) c = refl
event_slots (events.Leave caller call) c = refl
event_slots (events.Change by change) c = (change_steady change c).slots
event_slots (events.Batch by list) c = fold_slots list c
event_slots (events.Save by config) c = refl
event_slots (events.Commit by content) c = content_slots content c
event_slots events.Close c = refl

pub list_slots : (list : List Event) (c : ControlState) → (applied c list).slots ≡ c.slots
list_slots [] c = refl
list_slots (event ∷ list) c = list_slots list (apply c event) ∙ event_slots event c

-- there are as many slots as the start says
pub slots_are : (start : Start) (list : List Event) → (applied (opened start) list).slots ≡ start.slots
slots_are start list = list_slots list (opened start)
