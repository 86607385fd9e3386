-- Changes of a plane keep it numbered, and draw no more than is left.
use Rattle.std.proofs.Common.{◌≡◌, ℕ, ◌+◌, ◌-◌, ◌^◌, ◌<◌, ◌≤◌, ◌||◌, Bool, true, false, cond, List, All, Option, Some, None, is_some, nat_lt, refl, ap, sym, subst, arith}
use Rattle.std.proofs.lemmas.Bool.Decides.{nat_tests}
use Rattle.std.proofs.lemmas.List.Elements.{All-filter, All-map, All-append, All-cons, All-weaker}
use Rattle.p4_types.specs.declared.info.Table.{Table}
use Rattle.p4_types.specs.declared.profiles.ProfileChange.{ProfileChange}
use Rattle.p4_types.specs.declared.profiles.ProfileChange.TheVariants as profile_changes
use Rattle.p4_types.specs.declared.table.Change.{Change}
use Rattle.p4_types.specs.declared.table.Change.TheVariants as changes
use Rattle.p4_types.specs.declared.table.Entry.{Entry}
use Rattle.p4_types.specs.declared.table.EntryChange.{EntryChange}
use Rattle.p4_types.specs.declared.table.EntryName.{EntryName}
use Rattle.p4_types.specs.declared.table.Room.{Room}
use Rattle.plane_spec.specs.Entries.{is_full, table_size, entries_of, entry_named, slots_drawn, new_entry, next_number, inserted, modified, deleted, with_change, same_name}
use Rattle.plane_spec.specs.Objects.{table_of}
use Rattle.plane_spec.specs.Planes.{Plane, room_of, if_present, if_in_use, lacks_use, set_exceeds, insert_cause_in, change_cause, cause_in, profile_changed}
use Rattle.plane_spec.specs.Profiles.{entry_rows}
use Rattle.plane_spec.proofs.ChangedProfiles.{no_cause, not_broken, neither}
use Rattle.plane_state.specs.declared.parts.Drawn.{Drawn}
use Rattle.role_arbiter.specs.State.{RolesState}
use Rattle.plane_state.specs.Versions.{insert_after, plane_after, drawn_by_insert, drawn_by}
use Rattle.plane_image.specs.Image.{BelowIn, CellsBelowIn, IsNumbered, control_of, after_in, drawn_in}

-- an entry's number is below
abbrev pub Below : ℕ → Entry → Type 0
Below next entry = entry.seq < next

below_more : (next more : ℕ) (entries : List Entry) → All (Below next) entries → All (Below (next + more)) entries
below_more next more entries h = All-weaker (Below next) (Below (next + more)) (λ entry lt. omega (arith, lt)) entries h

pub below_in_more : (next more : ℕ) (o : Option Plane) → BelowIn next o → BelowIn (next + more) o
below_in_more next more None h = tt
below_in_more next more (Some plane) h = below_more next more plane.entries h

not_full : (a b c d : Bool) → (a || b || c || d) ≡ false → (c ≡ false) × (d ≡ false)
not_full false false false false h = (refl, refl)
not_full false false false true h = absurd (cc)
not_full false false true d h = absurd (cc)
not_full false true c d h = absurd (cc)
not_full true b c d h = absurd (cc)

not_lower : (m n : ℕ) → nat_lt m n ≡ false → n ≤ m
not_lower m n h = grind (arith, nat_tests)

-- an INSERT that is not refused finds a number and the slots that it draws
pub record HasLeft (room : Room) (table : Table) : Type 0 where
  pub numbers : 1 ≤ room.numbers
  pub slots : slots_drawn table ≤ room.slots

has_left : (table : Table) (room : Room) (plane : Plane) (change : EntryChange) → insert_cause_in (Some table) room plane change ≡ None → HasLeft room table
has_left table room plane change none =
    let needed : ℕ = entry_rows change.action in
    let present = no_cause (if_present (is_some (entry_named change.name plane.entries))) _ none in
    let used = no_cause (if_in_use (lacks_use plane change.action)) _ present.1 in
    let free = neither (is_full table needed room plane.entries) (set_exceeds plane None change.action) (not_broken _ _ _ used.1) in
    let parts = not_full (nat_lt (table_size table) (entries_of table plane.entries + 1)) (nat_lt room.rows needed) (nat_lt room.slots (slots_drawn table)) (nat_lt room.numbers 1) free.0 in
    record { numbers = not_lower room.numbers 1 parts.1; slots = not_lower room.slots (slots_drawn table) parts.0 }

-- what a change draws is left
pub record IsLeft (next slot most : ℕ) (drawn drawn_slots : ℕ) : Type 0 where
  pub numbers : next + drawn ≤ 2 ^ 64 - 1
  pub slots : slot + drawn_slots ≤ most

nothing_drawn : (next slot most : ℕ) → next ≤ 2 ^ 64 - 1 → slot ≤ most → IsLeft next slot most 0 0
nothing_drawn next slot most few low = record { numbers = omega (arith, few); slots = omega (arith, low) }

left_by_insert : (o : Option Table) (room : Room) (plane : Plane) (change : EntryChange) (next slot most : ℕ) → next ≤ 2 ^ 64 - 1 → slot ≤ most → room.numbers ≡ 2 ^ 64 - 1 - next → room.slots ≡ most - slot
    → insert_cause_in o room plane change ≡ None → IsLeft next slot most (drawn_by_insert o).numbers (drawn_by_insert o).slots
left_by_insert None room plane change next slot most few low numbers slots none = nothing_drawn next slot most few low
left_by_insert (Some table) room plane change next slot most few low numbers slots none =
    let left = has_left table room plane change none in
    record { numbers = omega (arith, left.numbers, numbers, few); slots = omega (arith, left.slots, slots, low) }

left_by : (change : Change) (room : Room) (plane : Plane) (next slot most : ℕ) → next ≤ 2 ^ 64 - 1 → slot ≤ most → room.numbers ≡ 2 ^ 64 - 1 - next → room.slots ≡ most - slot
    → change_cause room plane change ≡ None → IsLeft next slot most (drawn_by plane change).numbers (drawn_by plane change).slots
left_by (changes.InsertEntry change) room plane next slot most few low numbers slots none = left_by_insert (table_of change.name.table plane.config.info) room plane change next slot most few low numbers slots none
left_by (changes.ModifyEntry change) room plane next slot most few low numbers slots none = nothing_drawn next slot most few low
left_by (changes.DeleteEntry name) room plane next slot most few low numbers slots none = nothing_drawn next slot most few low
left_by (changes.ModifyDefault table action) room plane next slot most few low numbers slots none = nothing_drawn next slot most few low
left_by (changes.Profile change) room plane next slot most few low numbers slots none = nothing_drawn next slot most few low
left_by (changes.Digest change) room plane next slot most few low numbers slots none = nothing_drawn next slot most few low
left_by (changes.Multicast change) room plane next slot most few low numbers slots none = nothing_drawn next slot most few low

pub left_in : (o : Option Plane) (change : Change) (room : Room) (next slot most : ℕ) → next ≤ 2 ^ 64 - 1 → slot ≤ most → room.numbers ≡ 2 ^ 64 - 1 - next → room.slots ≡ most - slot
    → cause_in o room change ≡ None → IsLeft next slot most (drawn_in o change).numbers (drawn_in o change).slots
left_in None change room next slot most few low numbers slots none = nothing_drawn next slot most few low
left_in (Some plane) change room next slot most few low numbers slots none = left_by change room plane next slot most few low numbers slots none

-- a change of a member or a group leaves all else of a plane
profile_apart : (change : ProfileChange) (plane : Plane) → profile_changed plane change ≡ record plane { members = (profile_changed plane change).members; groups = (profile_changed plane change).groups }
profile_apart (profile_changes.InsertMember member) plane = refl
profile_apart (profile_changes.ModifyMember member) plane = refl
profile_apart (profile_changes.DeleteMember profile id) plane = refl
profile_apart (profile_changes.InsertGroup group) plane = refl
profile_apart (profile_changes.ModifyGroup group) plane = refl
profile_apart (profile_changes.DeleteGroup profile id) plane = refl

-- the entries after a change have drawn their numbers
below_inserted : (next : ℕ) (entry : Entry) (entries : List Entry) → entry.seq < next + 1 → All (Below next) entries → All (Below (next + 1)) (inserted entry entries)
unfolding inserted
below_inserted next entry entries own h =
    let more = below_more next 1 entries h in
    All-append (Below (next + 1)) _ _ (All-filter _ (Below (next + 1)) entries more) (All-cons (Below (next + 1)) entry _ own (All-filter _ (Below (next + 1)) entries more))

below_changed : (b : Bool) (next : ℕ) (change : EntryChange) (entry : Entry) → Below next entry → Below next (cond b (with_change change entry) entry)
below_changed true next change entry h = h
below_changed false next change entry h = h

below_modified : (next : ℕ) (change : EntryChange) (entries : List Entry) → All (Below next) entries → All (Below next) (modified change entries)
unfolding modified
below_modified next change entries h =
    All-map (Below next) (λ entry. cond (same_name change.name entry.name) (with_change change entry) entry) entries
    (All-weaker (Below next) (λ entry. Below next (cond (same_name change.name entry.name) (with_change change entry) entry))
    (λ entry lt. below_changed (same_name change.name entry.name) next change entry lt) entries h)

below_deleted : (next : ℕ) (name : EntryName) (entries : List Entry) → All (Below next) entries → All (Below next) (deleted name entries)
unfolding deleted
below_deleted next name entries h = All-filter _ (Below next) entries h

with_none : (next : ℕ) (entries : List Entry) → All (Below next) entries → All (Below (next + 0)) entries
with_none next entries h = below_more next 0 entries h

below_insert : (o : Option Table) (room : Room) (plane : Plane) (change : EntryChange) (next : ℕ) → next_number room < next + 1 → All (Below next) plane.entries
    → All (Below (next + (drawn_by_insert o).numbers)) (insert_after o room plane change).entries
below_insert None room plane change next own h = with_none next plane.entries h
below_insert (Some table) room plane change next own h = below_inserted next (new_entry table room change) plane.entries own h

below_after : (change : Change) (room : Room) (plane : Plane) (next : ℕ) → next_number room < next + 1 → All (Below next) plane.entries
    → All (Below (next + (drawn_by plane change).numbers)) (plane_after room plane change).entries
below_after (changes.InsertEntry change) room plane next own h = below_insert (table_of change.name.table plane.config.info) room plane change next own h
below_after (changes.ModifyEntry change) room plane next own h = with_none next _ (below_modified next change plane.entries h)
below_after (changes.DeleteEntry name) room plane next own h = with_none next _ (below_deleted next name plane.entries h)
below_after (changes.ModifyDefault table action) room plane next own h = with_none next plane.entries h
below_after (changes.Profile change) room plane next own h = subst (λ (p : Plane). All (Below (next + 0)) p.entries) (sym (profile_apart change plane)) (with_none next plane.entries h)
below_after (changes.Digest change) room plane next own h = with_none next plane.entries h
below_after (changes.Multicast change) room plane next own h = with_none next plane.entries h

pub below_in_after : (o : Option Plane) (change : Change) (room : Room) (next : ℕ) → next_number room < next + 1 → BelowIn next o → BelowIn (next + (drawn_in o change).numbers) (after_in o room change)
below_in_after None change room next own h = tt
below_in_after (Some plane) change room next own h = below_after change room plane next own h

-- ---- the cells of a plane have drawn their slots

cells_more : (next more : ℕ) (plane : Plane) → CellsBelowIn next (Some plane) → CellsBelowIn (next + more) (Some plane)
cells_more next more plane h = omega (arith, h)

pub cells_in_more : (next more : ℕ) (o : Option Plane) → CellsBelowIn next o → CellsBelowIn (next + more) o
cells_in_more next more None h = tt
cells_in_more next more (Some plane) h = cells_more next more plane h

cells_insert : (o : Option Table) (room : Room) (plane : Plane) (change : EntryChange) (next : ℕ) → CellsBelowIn next (Some plane) → CellsBelowIn next (Some (insert_after o room plane change))
cells_insert None room plane change next h = h
cells_insert (Some table) room plane change next h = h

cells_after : (change : Change) (room : Room) (plane : Plane) (next : ℕ) → CellsBelowIn next (Some plane) → CellsBelowIn next (Some (plane_after room plane change))
cells_after (changes.InsertEntry change) room plane next h = cells_insert (table_of change.name.table plane.config.info) room plane change next h
cells_after (changes.ModifyEntry change) room plane next h = h
cells_after (changes.DeleteEntry name) room plane next h = h
cells_after (changes.ModifyDefault table action) room plane next h = h
cells_after (changes.Profile change) room plane next h = subst (λ (p : Plane). CellsBelowIn next (Some p)) (sym (profile_apart change plane)) h
cells_after (changes.Digest change) room plane next h = h
cells_after (changes.Multicast change) room plane next h = h

pub cells_in_after : (o : Option Plane) (change : Change) (room : Room) (next : ℕ) → CellsBelowIn next o → CellsBelowIn (next + (drawn_in o change).slots) (after_in o room change)
cells_in_after None change room next h = tt
cells_in_after (Some plane) change room next h = cells_in_more next (drawn_by plane change).slots (Some (plane_after room plane change)) (cells_after change room plane next h)

-- ---- the control state after a change of a plane

own_number : (room : Room) (next : ℕ) → next ≤ 2 ^ 64 - 1 → room.numbers ≡ 2 ^ 64 - 1 - next → next_number room < next + 1
own_number room next few is = omega (arith, few, is)

pub staged_numbered : (device cpu rows most : ℕ) (roles : RolesState) (active staged : Option Plane) (next slot : ℕ) (closed : Bool) (change : Change) (room : Room) (after : Option Plane) (drawn : Drawn)
    → IsNumbered (control_of device cpu rows most roles active staged next slot closed) → room ≡ room_of (control_of device cpu rows most roles active staged next slot closed)
    → cause_in staged room change ≡ None → after ≡ after_in staged room change → drawn ≡ drawn_in staged change
    → IsNumbered (control_of device cpu rows most roles active after (next + drawn.numbers) (slot + drawn.slots) closed)
staged_numbered device cpu rows most roles active staged next slot closed change room after drawn h room_is none after_is drawn_is =
    let left = left_in staged change room next slot most h.numbers h.slots (ap (λ (r : Room). r.numbers) room_is) (ap (λ (r : Room). r.slots) room_is) none in
    let below = below_in_after staged change room next (own_number room next h.numbers (ap (λ (r : Room). r.numbers) room_is)) h.staged in
    let F : Option Plane → Drawn → Type 0 = λ o d. IsNumbered (control_of device cpu rows most roles active o (next + d.numbers) (slot + d.slots) closed) in
    subst (λ (o : Option Plane). F o drawn) (sym after_is) (subst (λ (d : Drawn). F (after_in staged room change) d) (sym drawn_is)
    (record {
      active = below_in_more next (drawn_in staged change).numbers active h.active;
      staged = below;
      active_cells = cells_in_more slot (drawn_in staged change).slots active h.active_cells;
      staged_cells = cells_in_after staged change room slot h.staged_cells;
      numbers = left.numbers;
      slots = left.slots;
    }))

pub active_numbered : (device cpu rows most : ℕ) (roles : RolesState) (active staged : Option Plane) (next slot : ℕ) (closed : Bool) (change : Change) (room : Room) (after : Option Plane) (drawn : Drawn)
    → IsNumbered (control_of device cpu rows most roles active staged next slot closed) → room ≡ room_of (control_of device cpu rows most roles active staged next slot closed)
    → cause_in active room change ≡ None → after ≡ after_in active room change → drawn ≡ drawn_in active change
    → IsNumbered (control_of device cpu rows most roles after staged (next + drawn.numbers) (slot + drawn.slots) closed)
active_numbered device cpu rows most roles active staged next slot closed change room after drawn h room_is none after_is drawn_is =
    let left = left_in active change room next slot most h.numbers h.slots (ap (λ (r : Room). r.numbers) room_is) (ap (λ (r : Room). r.slots) room_is) none in
    let below = below_in_after active change room next (own_number room next h.numbers (ap (λ (r : Room). r.numbers) room_is)) h.active in
    let F : Option Plane → Drawn → Type 0 = λ o d. IsNumbered (control_of device cpu rows most roles o staged (next + d.numbers) (slot + d.slots) closed) in
    subst (λ (o : Option Plane). F o drawn) (sym after_is) (subst (λ (d : Drawn). F (after_in active room change) d) (sym drawn_is)
    (record {
      active = below;
      staged = below_in_more next (drawn_in active change).numbers staged h.staged;
      active_cells = cells_in_after active change room slot h.active_cells;
      staged_cells = cells_in_more slot (drawn_in active change).slots staged h.staged_cells;
      numbers = left.numbers;
      slots = left.slots;
    }))
