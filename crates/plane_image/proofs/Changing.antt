-- A change of a plane, with what it draws, is the change of the control state.
use Rattle.std.proofs.Common.{◌≡◌, ℕ, ◌+◌, Bool, true, false, Option, Some, None, is_some, refl, ap, ap₂, ◌∙◌, sym, add-zero}
use Rattle.p4_types.specs.declared.code.Cause.{Cause}
use Rattle.p4_types.specs.declared.info.Table.{Table}
use Rattle.p4_types.specs.declared.table.Change.{Change}
use Rattle.p4_types.specs.declared.table.Change.TheVariants as changes
use Rattle.p4_types.specs.declared.table.EntryChange.{EntryChange}
use Rattle.p4_types.specs.declared.table.Room.{Room}
use Rattle.plane_spec.specs.Objects.{table_of}
use Rattle.plane_spec.specs.Planes.{ControlState, Plane, target, room_of, change_cause, cause_in, inserted_in, changed, changed_unless, changed_in, change_applied}
use Rattle.plane_state.specs.declared.parts.Drawn.{Drawn}
use Rattle.plane_state.specs.Versions.{insert_after, plane_after, drawn_by_insert, drawn_by}
use Rattle.role_arbiter.specs.State.{RolesState}
use Rattle.plane_image.specs.Image.{control_of, after_in, drawn_in}

-- with another plane in the place of the target, and other numbers
abbrev with_staged : ControlState → Plane → ℕ → ℕ → ControlState
with_staged c plane next slot = control_of c.device c.cpu c.rows c.slots c.roles c.active (Some plane) next slot c.closed

abbrev with_active : ControlState → Plane → ℕ → ℕ → ControlState
with_active c plane next slot = control_of c.device c.cpu c.rows c.slots c.roles (Some plane) c.staged next slot c.closed

none_drawn_staged : (c : ControlState) (plane : Plane) → with_staged c plane (c.next + 0) (c.next_slot + 0) ≡ with_staged c plane c.next c.next_slot
none_drawn_staged c plane = ap₂ (λ (n m : ℕ). with_staged c plane n m) (add-zero c.next) (add-zero c.next_slot)

none_drawn_active : (c : ControlState) (plane : Plane) → with_active c plane (c.next + 0) (c.next_slot + 0) ≡ with_active c plane c.next c.next_slot
none_drawn_active c plane = ap₂ (λ (n m : ℕ). with_active c plane n m) (add-zero c.next) (add-zero c.next_slot)

insert_staged : (o : Option Table) (device cpu rows most : ℕ) (roles : RolesState) (active : Option Plane) (plane : Plane) (next slot : ℕ) (closed : Bool) (change : EntryChange)
    → let c = control_of device cpu rows most roles active (Some plane) next slot closed in
    with_staged c (insert_after o (room_of c) plane change) (next + (drawn_by_insert o).numbers) (slot + (drawn_by_insert o).slots) ≡ inserted_in o c plane change
insert_staged None device cpu rows most roles active plane next slot closed change = none_drawn_staged (control_of device cpu rows most roles active (Some plane) next slot closed) plane
insert_staged (Some table) device cpu rows most roles active plane next slot closed change = refl

change_staged : (change : Change) (device cpu rows most : ℕ) (roles : RolesState) (active : Option Plane) (plane : Plane) (next slot : ℕ) (closed : Bool)
    → let c = control_of device cpu rows most roles active (Some plane) next slot closed in
    with_staged c (plane_after (room_of c) plane change) (next + (drawn_by plane change).numbers) (slot + (drawn_by plane change).slots) ≡ changed c plane change
change_staged (changes.InsertEntry change) device cpu rows most roles active plane next slot closed = insert_staged (table_of change.name.table plane.config.info) device cpu rows most roles active plane next slot closed change
change_staged (changes.ModifyEntry change) device cpu rows most roles active plane next slot closed = none_drawn_staged (control_of device cpu rows most roles active (Some plane) next slot closed) _
change_staged (changes.DeleteEntry name) device cpu rows most roles active plane next slot closed = none_drawn_staged (control_of device cpu rows most roles active (Some plane) next slot closed) _
change_staged (changes.ModifyDefault table action) device cpu rows most roles active plane next slot closed = none_drawn_staged (control_of device cpu rows most roles active (Some plane) next slot closed) _
change_staged (changes.Profile change) device cpu rows most roles active plane next slot closed = none_drawn_staged (control_of device cpu rows most roles active (Some plane) next slot closed) _
change_staged (changes.Digest change) device cpu rows most roles active plane next slot closed = none_drawn_staged (control_of device cpu rows most roles active (Some plane) next slot closed) _
change_staged (changes.Multicast change) device cpu rows most roles active plane next slot closed = none_drawn_staged (control_of device cpu rows most roles active (Some plane) next slot closed) _

insert_active : (o : Option Table) (device cpu rows most : ℕ) (roles : RolesState) (plane : Plane) (next slot : ℕ) (closed : Bool) (change : EntryChange)
    → let c = control_of device cpu rows most roles (Some plane) None next slot closed in
    with_active c (insert_after o (room_of c) plane change) (next + (drawn_by_insert o).numbers) (slot + (drawn_by_insert o).slots) ≡ inserted_in o c plane change
insert_active None device cpu rows most roles plane next slot closed change = none_drawn_active (control_of device cpu rows most roles (Some plane) None next slot closed) plane
insert_active (Some table) device cpu rows most roles plane next slot closed change = refl

change_active : (change : Change) (device cpu rows most : ℕ) (roles : RolesState) (plane : Plane) (next slot : ℕ) (closed : Bool)
    → let c = control_of device cpu rows most roles (Some plane) None next slot closed in
    with_active c (plane_after (room_of c) plane change) (next + (drawn_by plane change).numbers) (slot + (drawn_by plane change).slots) ≡ changed c plane change
change_active (changes.InsertEntry change) device cpu rows most roles plane next slot closed = insert_active (table_of change.name.table plane.config.info) device cpu rows most roles plane next slot closed change
change_active (changes.ModifyEntry change) device cpu rows most roles plane next slot closed = none_drawn_active (control_of device cpu rows most roles (Some plane) None next slot closed) _
change_active (changes.DeleteEntry name) device cpu rows most roles plane next slot closed = none_drawn_active (control_of device cpu rows most roles (Some plane) None next slot closed) _
change_active (changes.ModifyDefault table action) device cpu rows most roles plane next slot closed = none_drawn_active (control_of device cpu rows most roles (Some plane) None next slot closed) _
change_active (changes.Profile change) device cpu rows most roles plane next slot closed = none_drawn_active (control_of device cpu rows most roles (Some plane) None next slot closed) _
change_active (changes.Digest change) device cpu rows most roles plane next slot closed = none_drawn_active (control_of device cpu rows most roles (Some plane) None next slot closed) _
change_active (changes.Multicast change) device cpu rows most roles plane next slot closed = none_drawn_active (control_of device cpu rows most roles (Some plane) None next slot closed) _

-- the staged plane is changed
pub staged_changed : (device cpu rows most : ℕ) (roles : RolesState) (active staged : Option Plane) (next slot : ℕ) (closed : Bool) (change : Change) (room : Room) (after : Option Plane) (drawn : Drawn)
    → is_some staged ≡ true → room ≡ room_of (control_of device cpu rows most roles active staged next slot closed) → cause_in staged room change ≡ None
    → after ≡ after_in staged room change → drawn ≡ drawn_in staged change
    → control_of device cpu rows most roles active after (next + drawn.numbers) (slot + drawn.slots) closed ≡ change_applied (control_of device cpu rows most roles active staged next slot closed) change
unfolding change_applied
staged_changed device cpu rows most roles active None next slot closed change room after drawn is room_is none after_is drawn_is = absurd (cc)
staged_changed device cpu rows most roles active (Some plane) next slot closed change room after drawn is room_is none after_is drawn_is =
    let c = control_of device cpu rows most roles active (Some plane) next slot closed in
    let F : Option Plane → Drawn → ControlState = λ o d. control_of device cpu rows most roles active o (next + d.numbers) (slot + d.slots) closed in
    let free : change_cause (room_of c) plane change ≡ None = ap (λ (r : Room). change_cause r plane change) (sym room_is) ∙ none in
    ap₂ F after_is drawn_is
    ∙ ap (λ (r : Room). F (Some (plane_after r plane change)) (drawn_by plane change)) room_is
    ∙ change_staged change device cpu rows most roles active plane next slot closed
    ∙ sym (ap (λ o. changed_unless o c plane change) free)

-- the active plane is changed, where none is staged
pub active_changed : (device cpu rows most : ℕ) (roles : RolesState) (active staged : Option Plane) (next slot : ℕ) (closed : Bool) (change : Change) (room : Room) (after : Option Plane) (drawn : Drawn)
    → is_some staged ≡ false → room ≡ room_of (control_of device cpu rows most roles active staged next slot closed) → cause_in active room change ≡ None
    → after ≡ after_in active room change → drawn ≡ drawn_in active change
    → control_of device cpu rows most roles after staged (next + drawn.numbers) (slot + drawn.slots) closed ≡ change_applied (control_of device cpu rows most roles active staged next slot closed) change
unfolding change_applied
active_changed device cpu rows most roles active (Some other) next slot closed change room after drawn is room_is none after_is drawn_is = absurd (cc)
active_changed device cpu rows most roles None None next slot closed change room after drawn is room_is none after_is drawn_is = absurd (cc)
active_changed device cpu rows most roles (Some plane) None next slot closed change room after drawn is room_is none after_is drawn_is =
    let c = control_of device cpu rows most roles (Some plane) None next slot closed in
    let F : Option Plane → Drawn → ControlState = λ o d. control_of device cpu rows most roles o None (next + d.numbers) (slot + d.slots) closed in
    let free : change_cause (room_of c) plane change ≡ None = ap (λ (r : Room). change_cause r plane change) (sym room_is) ∙ none in
    ap₂ F after_is drawn_is
    ∙ ap (λ (r : Room). F (Some (plane_after r plane change)) (drawn_by plane change)) room_is
    ∙ change_active change device cpu rows most roles plane next slot closed
    ∙ sym (ap (λ o. changed_unless o c plane change) free)

-- the target where a plane is staged, and where none is
pub target_staged : (active staged : Option Plane) (c : ControlState) → c.active ≡ active → c.staged ≡ staged → is_some staged ≡ true → target c ≡ staged
target_staged active None c active_is staged_is is = absurd (cc)
target_staged active (Some plane) c active_is staged_is is = ap (λ (o : Option Plane). target (record c { staged = o })) staged_is

pub target_active : (active staged : Option Plane) (c : ControlState) → c.active ≡ active → c.staged ≡ staged → is_some staged ≡ false → target c ≡ active
target_active active (Some plane) c active_is staged_is is = absurd (cc)
target_active active None c active_is staged_is is = ap (λ (o : Option Plane). target (record c { staged = o })) staged_is ∙ active_is

-- a change that is refused for a cause leaves the state
stays_in : (o : Option Plane) (c : ControlState) (change : Change) (cause : Cause) → cause_in o (room_of c) change ≡ Some cause → changed_in o c change ≡ c
stays_in None c change cause h = refl
stays_in (Some plane) c change cause h = ap (λ o. changed_unless o c plane change) h

pub refused_stays : (c : ControlState) (change : Change) (cause : Cause) → cause_in (target c) (room_of c) change ≡ Some cause → change_applied c change ≡ c
unfolding change_applied
refused_stays c change cause h = stays_in (target c) c change cause h
