-- A change of the target plane that is not refused keeps what is kept.
use Rattle.std.proofs.Common.{◌≡◌, ℕ, ◌+◌, ◌-◌, ◌^◌, ◌<◌, ◌≤◌, ◌||◌, ◌==◌, Bool, true, false, cond, eqb, ltb, List, [], ◌∷◌, get_or, fold, Option, Some, None, is_some, refl, sym, subst, ap, arith}
use Rattle.std.specs.List.{All, AllByRecursion, count_by, filter_map, find, sum_by}
use Rattle.std.proofs.lemmas.Bool.{ltb-false, eqb-true}
use Rattle.std.proofs.lemmas.List.Sums.{get_or-le-sum_by}
use Rattle.p4_types.specs.declared.code.Cause.{Cause}
use Rattle.p4_types.specs.declared.info.Table.{Table}
use Rattle.p4_types.specs.declared.table.Change.{Change}
use Rattle.p4_types.specs.declared.table.Change.TheVariants as changes
use Rattle.p4_types.specs.declared.messages.DigestEntry.{DigestEntry}
use Rattle.p4_types.specs.declared.multicast.MulticastChange.{MulticastChange}
use Rattle.p4_types.specs.declared.profiles.Group.{Group}
use Rattle.p4_types.specs.declared.profiles.Member.{Member}
use Rattle.p4_types.specs.declared.profiles.ProfileChange.{ProfileChange}
use Rattle.p4_types.specs.declared.profiles.ProfileChange.TheVariants as profile_changes
use Rattle.p4_types.specs.declared.table.DefaultAction.{DefaultAction}
use Rattle.p4_types.specs.declared.table.Entry.{Entry}
use Rattle.p4_types.specs.declared.table.EntryAction.{EntryAction}
use Rattle.p4_types.specs.declared.table.EntryAction.TheVariants as entry_actions
use Rattle.p4_types.specs.declared.table.EntryChange.{EntryChange}
use Rattle.p4_types.specs.declared.table.EntryName.{EntryName}
use Rattle.plane_spec.specs.Config.{cells_in}
use Rattle.plane_spec.specs.Entries.{same_name, table_size, entries_of, is_counted, slots_drawn, is_full, entry_named, new_entry, inserted, modified, deleted, with_change}
use Rattle.plane_spec.specs.Multicast.{multicast_changed}
use Rattle.plane_spec.specs.Objects.{table_of}
use Rattle.plane_spec.specs.Order.{StandsBefore}
use Rattle.plane_spec.specs.Profiles.{entry_rows, group_of}
use Rattle.plane_spec.specs.Planes.{ControlState, Plane, rows_of, rows_used, room_of, or_else, with_target, if_present, if_in_use, lacks_use, set_exceeds, insert_cause_in, modify_cause_in, profile_cause, multicast_cause_in, change_cause, profile_changed, with_default, digests_changed, inserted_in, changed, changed_unless, changed_in, change_applied}
use Rattle.plane_spec.specs.PlaneLaws.{numbers_from, numbers_of, slots_of}
use Rattle.plane_spec.proofs.ChangedMulticast.{may_have}
use Rattle.plane_spec.proofs.ChangedProfiles.{MayHave, no_cause, not_broken, neither, member_more, member_other, member_fewer, group_more, group_other, group_fewer}
use Rattle.plane_spec.proofs.Counts.{sum-inserted, sum-modified, sum-deleted}
use Rattle.plane_spec.proofs.Drawn.{times, drawn, AreDrawn, slot_times, times-append, times-numbers, times-slots, drawn-more, times-itself, was_drawn}
use Rattle.plane_spec.proofs.EntryOrder.{Stand, stand_inserted, stand_modified, stand_deleted, none_named}
use Rattle.plane_spec.proofs.Keyed.{IsOnce, sum-replaced, All-by-recursion}
use Rattle.plane_spec.proofs.KeptPlanes.{IsKeptPlane, IsKept}
use Rattle.plane_spec.proofs.Lists.{All-weaken}
use Rattle.plane_spec.proofs.Names.{names_equal}

-- Another plane may stand in the place of one: it is kept, and what it has more was drawn since.
record MayStand (c : ControlState) (old new : Plane) (next next_slot : ℕ) : Type 0 where
  plane : IsKeptPlane new
  numbers : (x : ℕ) → times x (numbers_of (Some new)) + drawn c.next x ≤ times x (numbers_of (Some old)) + drawn next x
  slots : (x : ℕ) → times x (slots_of (Some new)) + drawn c.next_slot x ≤ times x (slots_of (Some old)) + drawn next_slot x
  rows : rows_used c + rows_of new ≤ c.rows + rows_of old
  number_limit : next ≤ 2 ^ 64 - 1
  slot_limit : next_slot ≤ c.slots

-- with another target plane, and other numbers that are drawn next
abbrev pub put : ControlState → Plane → ℕ → ℕ → ControlState
put c plane next next_slot = record (with_target c plane) { next = next; next_slot = next_slot }

-- the plane is the target, and one that may stand in its place keeps what is kept
record IsTarget (c : ControlState) (plane : Plane) : Type 0 where
  kept : IsKept c
  is_kept : IsKeptPlane plane
  drawn_numbers : AreDrawn c.next (numbers_of (Some plane))
  replaced : (new : Plane) (next next_slot : ℕ) → MayStand c plane new next next_slot → IsKept (put c new next next_slot)

-- a number that a MODIFY of an entry leaves as it is
abbrev IsUntouched : (Entry → ℕ) → Type 0
IsUntouched f = (change : EntryChange) (entry : Entry) → f (with_change change entry) ≡ f entry

-- another target plane leaves what is drawn next
pub same_next : (b : Bool) (c : ControlState) (plane : Plane) → let d : ControlState = cond b (record c { staged = Some plane }) (record c { active = Some plane }) in d ≡ record d { next = c.next; next_slot = c.next_slot }
same_next true c plane = refl
same_next false c plane = refl

-- a change that draws nothing
with_same_next : (c : ControlState) (old new : Plane) → IsTarget c old → MayStand c old new c.next c.next_slot → IsKept (with_target c new)
with_same_next c old new t may = subst IsKept (sym (same_next (is_some c.staged) c new)) (t.replaced new c.next c.next_slot may)

-- the rows that entries take
abbrev rows_by : List Entry → ℕ
rows_by entries = sum_by (λ entry. entry_rows entry.action) entries

-- other entries in a plane, of which no number, slot or table has more, and for whose rows there is room
fewer_stand : (c : ControlState) (old : Plane) (entries : List Entry) → IsTarget c old → Stand entries → ((f : Entry → ℕ) → IsUntouched f → sum_by f entries ≤ sum_by f old.entries)
    → rows_used c + rows_by entries ≤ c.rows + rows_by old.entries → MayStand c old (record old { entries = entries }) c.next c.next_slot
fewer_stand c old entries t stand fewer room =
    let cells : List ℕ = numbers_from (cells_in old.config) old.cells in record {
      plane = record {
        stand = stand;
        sizes = λ id table is. omega (arith, t.is_kept.sizes id table is, fewer (λ e. cond (eqb e.name.table id) 1 0) (λ change e. refl));
        members = t.is_kept.members;
        groups = t.is_kept.groups;
        multicast = t.is_kept.multicast;
        multicast_number = t.is_kept.multicast_number;
      };
      numbers = λ x. omega (arith, times-numbers x entries, times-numbers x old.entries, fewer (λ e. cond (eqb x e.seq) 1 0) (λ change e. refl));
      slots = λ x. omega (
        arith,
        times-append x (filter_map (λ (e : Entry). e.slot) entries) cells,
        times-append x (filter_map (λ (e : Entry). e.slot) old.entries) cells,
        times-slots x entries,
        times-slots x old.entries,
        fewer (λ e. slot_times x e.slot) (λ change e. refl),
      );
      rows = omega (arith, room);
      number_limit = t.kept.number_limit;
      slot_limit = t.kept.slot_limit;
    }

-- what an INSERT that is not refused finds
record HasRoom (c : ControlState) (table : Table) (name : EntryName) (rows_needed : ℕ) (entries : List Entry) : Type 0 where
  unnamed : is_some (entry_named name entries) ≡ false
  size : entries_of table entries + 1 ≤ table_size table
  rows : rows_used c + rows_needed ≤ c.rows
  slots : c.next_slot + slots_drawn table ≤ c.slots
  numbers : c.next + 1 ≤ 2 ^ 64 - 1

none_passes : (a b c d : Bool) → (a || b || c || d) ≡ false → (a ≡ false) × (b ≡ false) × (c ≡ false) × (d ≡ false)
none_passes false false false false h = (refl, refl, refl, refl)
none_passes true b c d h = absurd (cc)
none_passes false true c d h = absurd (cc)
none_passes false false true d h = absurd (cc)
none_passes false false false true h = absurd (cc)

has_room : (c : ControlState) (table : Table) (old : Plane) (change : EntryChange) → c.next_slot ≤ c.slots → 1 ≤ entry_rows change.action → insert_cause_in (Some table) (room_of c) old change ≡ None
    → HasRoom c table change.name (entry_rows change.action) old.entries
has_room c table old change limit some none =
    let entries = old.entries in
    let needed : ℕ = entry_rows change.action in
    let present = no_cause (if_present (is_some (entry_named change.name entries))) _ none in
    let used = no_cause (if_in_use (lacks_use old change.action)) _ present.1 in
    let free = neither (is_full table needed (room_of c) entries) (set_exceeds old None change.action) (not_broken _ _ _ used.1) in
    let room = room_of c in
    let left = none_passes (ltb (table_size table) (entries_of table entries + 1)) (ltb room.rows needed) (ltb room.slots (slots_drawn table)) (ltb room.numbers 1) free.0 in
    let size = ltb-false (table_size table) (entries_of table entries + 1) left.0 in
    let rows = ltb-false room.rows needed left.1 in
    let slots = ltb-false room.slots (slots_drawn table) left.2 in
    let numbers = ltb-false room.numbers 1 left.3 in record {
      unnamed = not_broken _ _ _ present.0;
      size = size;
      rows = omega (arith, rows, some);
      slots = omega (arith, slots);
      numbers = omega (arith, numbers);
    }

-- an entry takes a row at least
takes_one : (action : EntryAction) → 1 ≤ entry_rows action
takes_one (entry_actions.Call call) = omega arith
takes_one (entry_actions.Member profile id) = omega arith
takes_one (entry_actions.Group profile id) = omega arith
takes_one (entry_actions.Set profile calls) = omega arith

-- an entry's number stands there once at least
below_next_number : (next : ℕ) (entries : List Entry) → ((x : ℕ) → sum_by (λ entry. cond (eqb x entry.seq) 1 0) entries ≤ drawn next x) → All (λ entry. entry.seq < next) entries
below_next_number next entries h = λ i d in_range.
    let x : ℕ = (get_or entries i d).seq in
    was_drawn next x (omega (arith, h x, times-itself x, get_or-le-sum_by (λ (entry : Entry). cond (eqb x entry.seq) 1 0) entries i d in_range))

passes_here : {X : Type 0} (p : X → Bool) (b : Bool) (x y : X) (o : Option X) → p y ≡ b → cond b (Some y) o ≡ Some x → (o ≡ Some x → p x ≡ true) → p x ≡ true
passes_here p true x y o e is later = let same : y ≡ x = cc in subst (λ z. p z ≡ true) same e
passes_here p false x y o e is later = later is

found_passes : {X : Type 0} (p : X → Bool) (xs : List X) (x : X) → find p xs ≡ Some x → p x ≡ true
found_passes p [] x is = absurd (cc)
found_passes p (y ∷ xs) x is = passes_here p (p y) x y (find p xs) refl is (found_passes p xs x)

-- with one entry more of its table no table exceeds its size
size_of : (c : ControlState) (old : Plane) (table : Table) (name : EntryName) → IsKeptPlane old → table_of name.table old.config.info ≡ Some table → (rows_needed : ℕ) → HasRoom c table name rows_needed old.entries
    → (b : Bool) (id : ℕ) (other : Table) → eqb name.table id ≡ b → table_of id old.config.info ≡ Some other → count_by (λ entry. entry.name.table == id) old.entries + cond b 1 0 ≤ table_size other
size_of c old table name k found needed room false id other differs is = omega (arith, k.sizes id other is)
size_of c old table name k found needed room true id other same is =
    let same_id : name.table ≡ id = eqb-true name.table id same in
    let there : table_of id old.config.info ≡ Some table = subst (λ n. table_of n old.config.info ≡ Some table) same_id found in
    let own : table.preamble.id ≡ id = eqb-true table.preamble.id id (found_passes (λ (t : Table). eqb t.preamble.id id) old.config.info.tables table there) in
    let equal : table ≡ other = cc in
    let size : count_by (λ entry. entry.name.table == id) old.entries + 1 ≤ table_size table = subst (λ n. count_by (λ entry. entry.name.table == n) old.entries + 1 ≤ table_size table) own room.size in
    subst (λ (t : Table). count_by (λ entry. entry.name.table == id) old.entries + 1 ≤ table_size t) equal size

-- a slot is drawn where the table counts
slot_drawn : (b : Bool) (x slot next : ℕ) → slot ≡ next → slot_times x (cond b (Some slot) None) + drawn next x ≡ drawn (next + cond b 1 0) x
slot_drawn true x slot next is = let same = ap (λ n. cond {A = ℕ} (eqb x n) 1 0) is in omega (arith, same, drawn-more next x)
slot_drawn false x slot next is = let same : next + 0 ≡ next = omega arith in rw same (omega arith)

-- the entries with a new one
more_stand : (c : ControlState) (old : Plane) (table : Table) (change : EntryChange) → IsTarget c old → table_of change.name.table old.config.info ≡ Some table → HasRoom c table change.name (entry_rows change.action) old.entries
    → MayStand c old (record old { entries = inserted (new_entry table (room_of c) change) old.entries }) (c.next + 1) (c.next_slot + slots_drawn table)
more_stand c old table change t found room =
    let entry : Entry = new_entry table (room_of c) change in
    let entries : List Entry = inserted entry old.entries in
    let cells : List ℕ = numbers_from (cells_in old.config) old.cells in
    let number : entry.seq ≡ c.next = omega (arith, t.kept.number_limit) in
    let below : All (λ x. x.seq < c.next) old.entries = below_next_number c.next old.entries (λ x. omega (arith, t.drawn_numbers x, times-numbers x old.entries)) in record {
      plane = record {
        stand = stand_inserted entry old.entries t.is_kept.stand (subst (λ n. All (λ x. x.seq < n) old.entries) (sym number) below) (none_named change.name old.entries room.unnamed);
        sizes = λ id other is. omega (
          arith,
          sum-inserted (λ e. cond (eqb e.name.table id) 1 0) entry old.entries,
          size_of c old table change.name t.is_kept found (entry_rows change.action) room (eqb change.name.table id) id other refl is,
        );
        members = t.is_kept.members;
        groups = t.is_kept.groups;
        multicast = t.is_kept.multicast;
        multicast_number = t.is_kept.multicast_number;
      };
      numbers = λ x. omega (
        arith,
        times-numbers x entries,
        times-numbers x old.entries,
        sum-inserted (λ e. cond (eqb x e.seq) 1 0) entry old.entries,
        ap (λ n. cond {A = ℕ} (eqb x n) 1 0) number,
        drawn-more c.next x,
      );
      slots = λ x. omega (
        arith,
        times-append x (filter_map (λ (e : Entry). e.slot) entries) cells,
        times-append x (filter_map (λ (e : Entry). e.slot) old.entries) cells,
        times-slots x entries,
        times-slots x old.entries,
        sum-inserted (λ e. slot_times x e.slot) entry old.entries,
        slot_drawn (is_counted table) x c.next_slot c.next_slot refl,
      );
      rows = omega (arith, room.rows, sum-inserted (λ e. entry_rows e.action) entry old.entries);
      number_limit = room.numbers;
      slot_limit = room.slots;
    }

inserted_kept : (o : Option Table) (c : ControlState) (old : Plane) (change : EntryChange) → table_of change.name.table old.config.info ≡ o → IsTarget c old → insert_cause_in o (room_of c) old change ≡ None → IsKept (inserted_in o c old change)
inserted_kept None c old change found t none = t.kept
inserted_kept (Some table) c old change found t none = t.replaced _ _ _ (more_stand c old table change t found (has_room c table old change t.kept.slot_limit (takes_one change.action) none))

-- of the entries one is of a name at most
pub stand_once : (name : EntryName) (entries : List Entry) → Stand entries → IsOnce (λ e. same_name name e.name) entries
stand_once name [] stand = tt
stand_once name (e ∷ entries) stand = (
  λ same. let named : name ≡ e.name = names_equal name e.name same in
      subst (λ n. AllByRecursion (λ x. same_name n x.name ≡ false) entries) (sym named) (All-weaken _ _ (λ x before. before.1) entries (All-by-recursion (StandsBefore e) entries stand.0)),
  stand_once name entries stand.1,
)

-- what a MODIFY does to a sum over the entries
pub sum-of-modified : (f : Entry → ℕ) (change : EntryChange) (former : Entry) (entries : List Entry) → Stand entries → entry_named change.name entries ≡ Some former
    → sum_by f (modified change entries) + f former ≡ sum_by f entries + f (with_change change former)
unfolding entry_named modified
sum-of-modified f change former entries stand named = sum-replaced (λ e. same_name change.name e.name) (with_change change) f former entries (stand_once change.name entries stand) named

modified_kept : (found : Option Entry) (c : ControlState) (old : Plane) (change : EntryChange) → entry_named change.name old.entries ≡ found → IsTarget c old → modify_cause_in found (room_of c) old change ≡ None
    → IsKept (with_target c (record old { entries = modified change old.entries }))
modified_kept None c old change named t none = absurd (cc)
modified_kept (Some former) c old change named t none =
    let used = no_cause (if_in_use (lacks_use old change.action)) _ none in
    let lacks = neither (ltb ((room_of c).rows + entry_rows former.action) (entry_rows change.action)) (set_exceeds old (Some former) change.action) (not_broken _ _ _ used.1) in
    let room = ltb-false ((room_of c).rows + entry_rows former.action) (entry_rows change.action) lacks.0 in
    let sum = sum-of-modified (λ e. entry_rows e.action) change former old.entries t.is_kept.stand named in
    with_same_next c old _ t (fewer_stand c old (modified change old.entries) t (stand_modified change old.entries t.is_kept.stand) (λ f same. omega (arith, sum-modified f change (same change) old.entries))
    (omega (arith, room, sum, t.kept.rows)))

-- a change of the default actions or the digests
beside_kept : (c : ControlState) (old : Plane) (changed_defaults : List DefaultAction) (told : List DigestEntry) → IsTarget c old → IsKept (with_target c (record old { changed = changed_defaults; digests = told }))
beside_kept c old changed_defaults told t = with_same_next c old _ t record {
  plane = record { stand = t.is_kept.stand; sizes = t.is_kept.sizes; members = t.is_kept.members; groups = t.is_kept.groups; multicast = t.is_kept.multicast; multicast_number = t.is_kept.multicast_number };
  numbers = λ x. omega arith;
  slots = λ x. omega arith;
  rows = omega (arith, t.kept.rows);
  number_limit = t.kept.number_limit;
  slot_limit = t.kept.slot_limit;
}

-- a change of the members and groups
profiles_kept : (c : ControlState) (old : Plane) (members : List Member) (groups : List Group) → IsTarget c old → MayHave (c.rows - rows_used c) old members groups
    → IsKept (with_target c (record old { members = members; groups = groups }))
profiles_kept c old members groups t may = with_same_next c old _ t record {
  plane = record { stand = t.is_kept.stand; sizes = t.is_kept.sizes; members = may.members; groups = may.groups; multicast = t.is_kept.multicast; multicast_number = t.is_kept.multicast_number };
  numbers = λ x. omega arith;
  slots = λ x. omega arith;
  rows = omega (arith, may.rows, t.kept.rows);
  number_limit = t.kept.number_limit;
  slot_limit = t.kept.slot_limit;
}

profile_kept : (change : ProfileChange) (c : ControlState) (old : Plane) → IsTarget c old → profile_cause (room_of c) old change ≡ None → IsKept (with_target c (profile_changed old change))
profile_kept (profile_changes.InsertMember member) c old t none = profiles_kept c old _ old.groups t (member_more (room_of c) old member t.is_kept.members t.is_kept.groups none)
profile_kept (profile_changes.ModifyMember member) c old t none = profiles_kept c old _ old.groups t (member_other (room_of c).rows old member t.is_kept.members t.is_kept.groups)
profile_kept (profile_changes.DeleteMember profile id) c old t none = profiles_kept c old _ old.groups t (member_fewer (room_of c).rows old profile id t.is_kept.members t.is_kept.groups)
profile_kept (profile_changes.InsertGroup group) c old t none = profiles_kept c old old.members _ t (group_more (room_of c) old group t.is_kept.members t.is_kept.groups none)
profile_kept (profile_changes.ModifyGroup group) c old t none =
    profiles_kept c old old.members _ t (group_other (group_of group.profile group.id old.groups) (room_of c) old group refl t.is_kept.members t.is_kept.groups none)
profile_kept (profile_changes.DeleteGroup profile id) c old t none = profiles_kept c old old.members _ t (group_fewer (room_of c).rows old profile id t.is_kept.members t.is_kept.groups)

-- a change of the multicast groups
multicast_kept : (change : MulticastChange) (c : ControlState) (old : Plane) → IsTarget c old → multicast_cause_in (room_of c) old.multicast change ≡ None
    → IsKept (with_target c (record old { multicast = multicast_changed old.multicast change }))
multicast_kept change c old t none =
    let may = may_have change (room_of c) old.multicast t.is_kept.multicast t.is_kept.multicast_number none in with_same_next c old _ t record {
      plane = record { stand = t.is_kept.stand; sizes = t.is_kept.sizes; members = t.is_kept.members; groups = t.is_kept.groups; multicast = may.rising; multicast_number = may.number };
      numbers = λ x. omega arith;
      slots = λ x. omega arith;
      rows = omega (arith, may.rows, t.kept.rows);
      number_limit = t.kept.number_limit;
      slot_limit = t.kept.slot_limit;
    }

changed_kept : (change : Change) (c : ControlState) (old : Plane) → IsTarget c old → change_cause (room_of c) old change ≡ None → IsKept (changed c old change)
changed_kept (changes.InsertEntry change) c old t none = inserted_kept _ c old change refl t none
changed_kept (changes.ModifyEntry change) c old t none = modified_kept _ c old change refl t none
changed_kept (changes.DeleteEntry name) c old t none =
    with_same_next c old _ t (fewer_stand c old (deleted name old.entries) t (stand_deleted name old.entries t.is_kept.stand) (λ f same. sum-deleted f name old.entries)
    (omega (arith, t.kept.rows, sum-deleted (λ e. entry_rows e.action) name old.entries)))
changed_kept (changes.ModifyDefault table action) c old t none = beside_kept c old (with_default table action old.changed) old.digests t
changed_kept (changes.Profile change) c old t none = profile_kept change c old t none
changed_kept (changes.Digest change) c old t none = beside_kept c old old.changed (digests_changed old.digests change) t
changed_kept (changes.Multicast change) c old t none = multicast_kept change c old t none

unless_kept : (o : Option Cause) (change : Change) (c : ControlState) (old : Plane) → change_cause (room_of c) old change ≡ o → IsTarget c old → IsKept (changed_unless o c old change)
unless_kept None change c old none t = changed_kept change c old t none
unless_kept (Some cause) change c old is t = t.kept

-- the same state with these planes
abbrev pub with_planes : ControlState → Option Plane → Option Plane → ControlState
with_planes c active staged = record c { active = active; staged = staged }

staged_target : (c : ControlState) (active : Option Plane) (plane : Plane) → IsKept (with_planes c active (Some plane)) → IsTarget (with_planes c active (Some plane)) plane
staged_target c active plane k = record {
  kept = k;
  is_kept = k.staged_plane;
  drawn_numbers = λ x. omega (arith, k.numbers x);
  replaced = λ new next next_slot may. record {
    active_plane = k.active_plane;
    staged_plane = may.plane;
    numbers = λ x. omega (arith, k.numbers x, may.numbers x);
    slots = λ x. omega (arith, k.slots x, may.slots x);
    rows = omega (arith, k.rows, may.rows);
    number_limit = may.number_limit;
    slot_limit = may.slot_limit;
  };
}

active_target : (c : ControlState) (plane : Plane) → IsKept (with_planes c (Some plane) None) → IsTarget (with_planes c (Some plane) None) plane
active_target c plane k = record {
  kept = k;
  is_kept = k.active_plane;
  drawn_numbers = λ x. omega (arith, k.numbers x);
  replaced = λ new next next_slot may. record {
    active_plane = may.plane;
    staged_plane = tt;
    numbers = λ x. omega (arith, k.numbers x, may.numbers x);
    slots = λ x. omega (arith, k.slots x, may.slots x);
    rows = omega (arith, k.rows, may.rows);
    number_limit = may.number_limit;
    slot_limit = may.slot_limit;
  };
}

in_kept : (active staged : Option Plane) (change : Change) (c : ControlState) → IsKept (with_planes c active staged) → IsKept (changed_in (or_else staged active) (with_planes c active staged) change)
in_kept active (Some plane) change c k = unless_kept _ change (with_planes c active (Some plane)) plane refl (staged_target c active plane k)
in_kept (Some plane) None change c k = unless_kept _ change (with_planes c (Some plane) None) plane refl (active_target c plane k)
in_kept None None change c k = k

change_kept : (change : Change) (c : ControlState) → IsKept c → IsKept (change_applied c change)
unfolding change_applied
change_kept change c k = in_kept c.active c.staged change c k

pub changes_kept : (list : List Change) (c : ControlState) → IsKept c → IsKept (fold change_applied c list)
changes_kept [] c k = k
changes_kept (change ∷ list) c k = changes_kept list (change_applied c change) (change_kept change c k)
