-- What holds of the entries and the cells of both planes, and of all that may be drawn, holds behind any events that may follow.
use Rattle.std.proofs.Common.{ℕ, ◌+◌, ◌≤◌, Bool, true, false, cond, leb, ltb, not, List, [], ◌∷◌, fold, Option, Some, None, IfSome, is_some, sym, subst, arith, le_refl}
use Rattle.std.specs.List.{All, filter}
use Rattle.std.proofs.lemmas.List.Elements.{All-nil, All-cons, All-append, All-filter, All-map, All-weaker}
use Rattle.p4_types.specs.declared.code.Cause.{Cause}
use Rattle.p4_types.specs.declared.events.Committed.TheVariants as contents
use Rattle.p4_types.specs.declared.events.Event.TheVariants as events
use Rattle.p4_types.specs.declared.info.Table.{Table}
use Rattle.p4_types.specs.declared.profiles.ProfileChange.{ProfileChange}
use Rattle.p4_types.specs.declared.profiles.ProfileChange.TheVariants as profile_changes
use Rattle.p4_types.specs.declared.table.Change.{Change}
use Rattle.p4_types.specs.declared.table.Change.TheVariants as changes
use Rattle.p4_types.specs.declared.table.Entry.{Entry}
use Rattle.p4_types.specs.declared.table.EntryChange.{EntryChange}
use Rattle.p4_types.specs.declared.table.EntryName.{EntryName}
use Rattle.plane_spec.specs.Config.{Config, Committed, Event, cells_in}
use Rattle.plane_spec.specs.Entries.{is_counted, same_name, new_entry, next_number, slots_drawn, inserted, modified, deleted, with_change}
use Rattle.plane_spec.specs.Legal.{Legal}
use Rattle.plane_spec.specs.Objects.{table_of}
use Rattle.plane_spec.specs.Planes.{profile_changed, ControlState, Plane, room_of, or_else, with_target, inserted_in, changed, changed_unless, changed_in, change_applied, apply, applied, made_plane, staged_committed, committed}
use Rattle.plane_spec.proofs.ChangedPlanes.{put, same_next, with_planes, changes_kept}
use Rattle.plane_spec.proofs.KeptPlanes.{IsKept}
use Rattle.plane_spec.proofs.SoundPlanes.{event_kept}

-- P holds of each entry's number and slot, and Q of the first cell and how many they are
pub record Holds (P : ℕ → Option ℕ → Type 0) (Q : ℕ → ℕ → Type 0) (plane : Plane) : Type 0 where
  pub entries : All (λ entry. P entry.seq entry.slot) plane.entries
  pub cells : Q plane.cells (cells_in plane.config)

-- it would hold of all that is drawn from these on
pub record IsFresh (P : ℕ → Option ℕ → Type 0) (Q : ℕ → ℕ → Type 0) (next next_slot : ℕ) : Type 0 where
  pub plain : (seq : ℕ) → next ≤ seq → P seq None
  pub counted : (seq slot : ℕ) → next ≤ seq → next_slot ≤ slot → P seq (Some slot)
  pub cells : (first count : ℕ) → next_slot ≤ first → Q first count

-- it holds of both planes, and of what may be drawn
pub record HoldIn (P : ℕ → Option ℕ → Type 0) (Q : ℕ → ℕ → Type 0) (active staged : Option Plane) (next next_slot : ℕ) : Type 0 where
  pub in_active : IfSome active (Holds P Q)
  pub in_staged : IfSome staged (Holds P Q)
  pub fresh : IsFresh P Q next next_slot

abbrev pub Hold : (ℕ → Option ℕ → Type 0) → (ℕ → ℕ → Type 0) → ControlState → Type 0
Hold P Q c = HoldIn P Q c.active c.staged c.next c.next_slot

fresh_later : (P : ℕ → Option ℕ → Type 0) (Q : ℕ → ℕ → Type 0) (next next_slot later later_slot : ℕ) → next ≤ later → next_slot ≤ later_slot
    → IsFresh P Q next next_slot → IsFresh P Q later later_slot
fresh_later P Q next next_slot later later_slot n s fresh = record {
  plain = λ seq le. fresh.plain seq (omega arith);
  counted = λ seq slot le slot_le. fresh.counted seq slot (omega arith) (omega arith);
  cells = λ first count le. fresh.cells first count (omega arith);
}

-- a new plane is staged
saved_hold : (P : ℕ → Option ℕ → Type 0) (Q : ℕ → ℕ → Type 0) (active staged : Option Plane) (next next_slot : ℕ) (config : Config)
    → HoldIn P Q active staged next next_slot → HoldIn P Q active (Some (made_plane next_slot config)) next (next_slot + cells_in config)
saved_hold P Q active staged next next_slot config h = record {
  in_active = h.in_active;
  in_staged = record { entries = All-nil (λ (entry : Entry). P entry.seq entry.slot); cells = h.fresh.cells next_slot (cells_in config) (le_refl next_slot) };
  fresh = fresh_later P Q next next_slot next (next_slot + cells_in config) (le_refl next) (omega arith) h.fresh;
}

-- the staged plane becomes the active one
committed_hold : (P : ℕ → Option ℕ → Type 0) (Q : ℕ → ℕ → Type 0) (active : Option Plane) (plane : Plane) (next next_slot : ℕ)
    → HoldIn P Q active (Some plane) next next_slot → HoldIn P Q (Some plane) None next next_slot
committed_hold P Q active plane next next_slot h = record { in_active = h.in_staged; in_staged = tt; fresh = h.fresh }

-- the plane is the target, and another of which it holds may stand in its place
record IsTarget (P : ℕ → Option ℕ → Type 0) (Q : ℕ → ℕ → Type 0) (c : ControlState) (plane : Plane) : Type 0 where
  kept : IsKept c
  hold : Hold P Q c
  own : Holds P Q plane
  replaced : (new : Plane) (next next_slot : ℕ) → c.next ≤ next → c.next_slot ≤ next_slot → Holds P Q new → Hold P Q (put c new next next_slot)

-- a change that draws nothing
drawing_nothing : (P : ℕ → Option ℕ → Type 0) (Q : ℕ → ℕ → Type 0) (c : ControlState) (old new : Plane) → IsTarget P Q c old → Holds P Q new → Hold P Q (with_target c new)
drawing_nothing P Q c old new t h =
    let now : Hold P Q (put c new c.next c.next_slot) = t.replaced new c.next c.next_slot (le_refl c.next) (le_refl c.next_slot) h in
    subst (Hold P Q) (sym (same_next (is_some c.staged) c new)) now

-- a new entry has a new number, and a new slot or none
drawn_holds : (P : ℕ → Option ℕ → Type 0) (Q : ℕ → ℕ → Type 0) (next next_slot seq slot : ℕ) (b : Bool) → next ≤ seq → next_slot ≤ slot → IsFresh P Q next next_slot → P seq (cond b (Some slot) None)
drawn_holds P Q next next_slot seq slot true n s fresh = fresh.counted seq slot n s
drawn_holds P Q next next_slot seq slot false n s fresh = fresh.plain seq n

inserted_holds : (P : ℕ → Option ℕ → Type 0) (entry : Entry) (entries : List Entry) → P entry.seq entry.slot → All (λ e. P e.seq e.slot) entries → All (λ e. P e.seq e.slot) (inserted entry entries)
unfolding inserted
inserted_holds P entry entries new old =
    let Q : Entry → Type 0 = λ e. P e.seq e.slot in
    let low : Entry → Bool = λ other. leb other.name.table entry.name.table in
    let high : Entry → Bool = λ other. ltb entry.name.table other.name.table in
    All-append Q (filter low entries) (entry ∷ filter high entries) (All-filter low Q entries old) (All-cons Q entry (filter high entries) new (All-filter high Q entries old))

either_holds : (P : ℕ → Option ℕ → Type 0) (change : EntryChange) (entry : Entry) (b : Bool) → P entry.seq entry.slot
    → let now : Entry = cond b (with_change change entry) entry in P now.seq now.slot
either_holds P change entry true h = h
either_holds P change entry false h = h

modified_holds : (P : ℕ → Option ℕ → Type 0) (change : EntryChange) (entries : List Entry) → All (λ e. P e.seq e.slot) entries → All (λ e. P e.seq e.slot) (modified change entries)
unfolding modified
modified_holds P change entries old =
    let Q : Entry → Type 0 = λ e. P e.seq e.slot in
    let now : Entry → Entry = λ e. cond (same_name change.name e.name) (with_change change e) e in
    All-map Q now entries (All-weaker Q (λ e. Q (now e)) (λ e h. either_holds P change e (same_name change.name e.name) h) entries old)

deleted_holds : (P : ℕ → Option ℕ → Type 0) (name : EntryName) (entries : List Entry) → All (λ e. P e.seq e.slot) entries → All (λ e. P e.seq e.slot) (deleted name entries)
unfolding deleted
deleted_holds P name entries old = All-filter (λ (e : Entry). not (same_name name e.name)) (λ e. P e.seq e.slot) entries old

insert_hold : (P : ℕ → Option ℕ → Type 0) (Q : ℕ → ℕ → Type 0) (o : Option Table) (c : ControlState) (old : Plane) (change : EntryChange) → IsTarget P Q c old → Hold P Q (inserted_in o c old change)
insert_hold P Q None c old change t = t.hold
insert_hold P Q (Some table) c old change t =
    let entry : Entry = new_entry table (room_of c) change in
    let number : c.next ≤ next_number (room_of c) = omega (arith, t.kept.number_limit) in
    let new : P entry.seq entry.slot = drawn_holds P Q c.next c.next_slot (next_number (room_of c)) c.next_slot (is_counted table) number (le_refl c.next_slot) t.hold.fresh in
    t.replaced (record old { entries = inserted entry old.entries }) (c.next + 1) (c.next_slot + slots_drawn table) (omega arith) (omega arith)
    record { entries = inserted_holds P entry old.entries new t.own.entries; cells = t.own.cells }

-- members and groups leave entries and cells as they are
profile_holds : (P : ℕ → Option ℕ → Type 0) (Q : ℕ → ℕ → Type 0) (change : ProfileChange) (old : Plane) → Holds P Q old → Holds P Q (profile_changed old change)
profile_holds P Q (profile_changes.InsertMember member) old h = record { entries = h.entries; cells = h.cells }
profile_holds P Q (profile_changes.ModifyMember member) old h = record { entries = h.entries; cells = h.cells }
profile_holds P Q (profile_changes.DeleteMember profile id) old h = record { entries = h.entries; cells = h.cells }
profile_holds P Q (profile_changes.InsertGroup group) old h = record { entries = h.entries; cells = h.cells }
profile_holds P Q (profile_changes.ModifyGroup group) old h = record { entries = h.entries; cells = h.cells }
profile_holds P Q (profile_changes.DeleteGroup profile id) old h = record { entries = h.entries; cells = h.cells }

changed_hold : (P : ℕ → Option ℕ → Type 0) (Q : ℕ → ℕ → Type 0) (change : Change) (c : ControlState) (old : Plane) → IsTarget P Q c old → Hold P Q (changed c old change)
changed_hold P Q (changes.InsertEntry change) c old t = insert_hold P Q (table_of change.name.table old.config.info) c old change t
changed_hold P Q (changes.ModifyEntry change) c old t =
    drawing_nothing P Q c old (record old { entries = modified change old.entries }) t record { entries = modified_holds P change old.entries t.own.entries; cells = t.own.cells }
changed_hold P Q (changes.DeleteEntry name) c old t =
    drawing_nothing P Q c old (record old { entries = deleted name old.entries }) t record { entries = deleted_holds P name old.entries t.own.entries; cells = t.own.cells }
changed_hold P Q (changes.ModifyDefault table action) c old t = drawing_nothing P Q c old _ t record { entries = t.own.entries; cells = t.own.cells }
changed_hold P Q (changes.Profile change) c old t = drawing_nothing P Q c old _ t (profile_holds P Q change old t.own)
changed_hold P Q (changes.Digest change) c old t = drawing_nothing P Q c old _ t record { entries = t.own.entries; cells = t.own.cells }
changed_hold P Q (changes.Multicast change) c old t = drawing_nothing P Q c old _ t record { entries = t.own.entries; cells = t.own.cells }

unless_hold : (P : ℕ → Option ℕ → Type 0) (Q : ℕ → ℕ → Type 0) (o : Option Cause) (change : Change) (c : ControlState) (old : Plane) → IsTarget P Q c old → Hold P Q (changed_unless o c old change)
unless_hold P Q None change c old t = changed_hold P Q change c old t
unless_hold P Q (Some cause) change c old t = t.hold

in_hold : (P : ℕ → Option ℕ → Type 0) (Q : ℕ → ℕ → Type 0) (active staged : Option Plane) (change : Change) (c : ControlState)
    → IsKept (with_planes c active staged) → Hold P Q (with_planes c active staged) → Hold P Q (changed_in (or_else staged active) (with_planes c active staged) change)
in_hold P Q active (Some plane) change c k h = unless_hold P Q _ change (with_planes c active (Some plane)) plane record {
  kept = k;
  hold = h;
  own = h.in_staged;
  replaced = λ new next next_slot n s new_holds. record { in_active = h.in_active; in_staged = new_holds; fresh = fresh_later P Q c.next c.next_slot next next_slot n s h.fresh };
}
in_hold P Q (Some plane) None change c k h = unless_hold P Q _ change (with_planes c (Some plane) None) plane record {
  kept = k;
  hold = h;
  own = h.in_active;
  replaced = λ new next next_slot n s new_holds. record { in_active = new_holds; in_staged = tt; fresh = fresh_later P Q c.next c.next_slot next next_slot n s h.fresh };
}
in_hold P Q None None change c k h = h

change_hold : (P : ℕ → Option ℕ → Type 0) (Q : ℕ → ℕ → Type 0) (change : Change) (c : ControlState) → IsKept c → Hold P Q c → Hold P Q (change_applied c change)
unfolding change_applied
change_hold P Q change c k h = in_hold P Q c.active c.staged change c k h

changes_hold : (P : ℕ → Option ℕ → Type 0) (Q : ℕ → ℕ → Type 0) (list : List Change) (c : ControlState) → IsKept c → Hold P Q c → Hold P Q (fold change_applied c list)
changes_hold P Q [] c k h = h
changes_hold P Q (change ∷ list) c k h = changes_hold P Q list (change_applied c change) (changes_kept (change ∷ []) c k) (change_hold P Q change c k h)

staged_hold : (P : ℕ → Option ℕ → Type 0) (Q : ℕ → ℕ → Type 0) (staged : Option Plane) (c : ControlState) → HoldIn P Q c.active staged c.next c.next_slot → Hold P Q c → Hold P Q (staged_committed staged c)
staged_hold P Q None c h own = own
staged_hold P Q (Some plane) c h own = committed_hold P Q c.active plane c.next c.next_slot h

commit_hold : (P : ℕ → Option ℕ → Type 0) (Q : ℕ → ℕ → Type 0) (content : Committed) (c : ControlState) → Hold P Q c → Hold P Q (committed c content)
commit_hold P Q contents.Staged c h = staged_hold P Q c.staged c h h
commit_hold P Q (contents.Fresh config) c h =
    committed_hold P Q c.active (made_plane c.next_slot config) c.next (c.next_slot + cells_in config) (saved_hold P Q c.active c.staged c.next c.next_slot config h)

event_hold : (P : ℕ → Option ℕ → Type 0) (Q : ℕ → ℕ → Type 0) (event : Event) (c : ControlState) → IsKept c → Hold P Q c → Hold P Q (apply c event)
event_hold P Q (events.Arbitrate by config) c k h = h
event_hold P Q (events.Leave caller call) c k h = h
event_hold P Q (events.Change by change) c k h = change_hold P Q change c k h
event_hold P Q (events.Batch by list) c k h = changes_hold P Q list c k h
event_hold P Q (events.Save by config) c k h = saved_hold P Q c.active c.staged c.next c.next_slot config h
event_hold P Q (events.Commit by content) c k h = commit_hold P Q content c h
event_hold P Q events.Close c k h = h

pub events_hold : (P : ℕ → Option ℕ → Type 0) (Q : ℕ → ℕ → Type 0) (list : List Event) (c : ControlState) → IsKept c → Legal c list → Hold P Q c → Hold P Q (applied c list)
events_hold P Q [] c k legal h = h
events_hold P Q (event ∷ list) c k legal h = events_hold P Q list (apply c event) (event_kept event c k legal.0) legal.1 (event_hold P Q event c k h)
