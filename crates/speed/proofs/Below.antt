-- Sequence numbers of a store that is filled.
use Rattle.std.proofs.Common.{◌≡◌, ℕ, ◌+◌, ◌<◌, List, All, Option, Some, None, Result, Ok, Err, OnOk, OnErr, sym, subst, arith}
use Rattle.std.proofs.lemmas.List.Elements.{All-filter, All-append, All-cons, All-weaker}
use Rattle.list_types.specs.declared.memory.Refusal.{Refusal}
use Rattle.list_types.specs.declared.memory.Refusal.TheVariants as refusals
use Rattle.p4_types.specs.declared.code.Cause.{Cause}
use Rattle.p4_types.specs.declared.info.Table.{Table}
use Rattle.p4_types.specs.declared.table.Entry.{Entry}
use Rattle.p4_types.specs.declared.table.EntryChange.{EntryChange}
use Rattle.p4_types.specs.declared.table.Room.{Room}
use Rattle.plane_spec.specs.Entries.{new_entry, next_number, inserted}
use Rattle.plane_spec.specs.Objects.{table_of}
use Rattle.plane_spec.specs.Planes.{Plane}
use Rattle.plane_state.specs.Answers.{WhereRefused, WithoutMemory}
use Rattle.plane_state.specs.Versions.{insert_after}

-- an entry's number is below
abbrev Below : ℕ → Entry → Type 0
Below next entry = entry.seq < next

weaker : (n : ℕ) (entries : List Entry) → All (Below (1 + n)) entries → All (Below (2 + n)) entries
weaker n entries h = All-weaker (Below (1 + n)) (Below (2 + n)) (λ entry lt. omega (arith, lt)) entries h

below_inserted : (n : ℕ) (table : Table) (room : Room) (change : EntryChange) (entries : List Entry) → next_number room ≡ 1 + n → All (Below (1 + n)) entries
    → All (Below (2 + n)) (inserted (new_entry table room change) entries)
unfolding inserted
below_inserted n table room change entries is h =
    let entry : Entry = new_entry table room change in
    let more = weaker n entries h in
    let own : Below (2 + n) entry = omega (arith, is) in
    All-append (Below (2 + n)) _ _ (All-filter _ (Below (2 + n)) entries more)
    (All-cons (Below (2 + n)) entry _ own (All-filter _ (Below (2 + n)) entries more))

-- after an INSERT that draws the number 1 + n, or is refused, all numbers are below 2 + n
pub below_put : {A B : Type 0} (r : Result A B) (n : ℕ) (table : Table) (room : Room) (change : EntryChange) (old new : List Entry) → next_number room ≡ 1 + n
    → All (Below (1 + n)) old → OnOk r (new ≡ inserted (new_entry table room change) old) → OnErr r (new ≡ old) → All (Below (2 + n)) new
below_put (Ok x) n table room change old new is h ok err = let P : List Entry → Type 0 = All (Below (2 + n)) in subst P (sym ok) (below_inserted n table room change old is h)
below_put (Err e) n table room change old new is h ok err = let P : List Entry → Type 0 = All (Below (2 + n)) in subst P (sym err) (weaker n old h)

below_after : (o : Option Table) (n : ℕ) (room : Room) (plane : Plane) (change : EntryChange) → next_number room ≡ 1 + n → All (Below (1 + n)) plane.entries
    → All (Below (2 + n)) (insert_after o room plane change).entries
below_after None n room plane change is h = weaker n plane.entries h
below_after (Some table) n room plane change is h = below_inserted n table room change plane.entries is h

-- so it is in a plane, which goes back to what it was before where there is no memory
pub below_plane : {A : Type 0} (r : Result A (Refusal Cause)) (n : ℕ) (room : Room) (old before new : Plane) (change : EntryChange) → next_number room ≡ 1 + n
    → All (Below (1 + n)) old.entries → All (Below (1 + n)) before.entries → OnOk r (new ≡ insert_after (table_of change.name.table old.config.info) room old change)
    → WhereRefused r (new ≡ old) → WithoutMemory r (new ≡ before) → All (Below (2 + n)) new.entries
below_plane (Ok x) n room old before new change is h k ok stays undone =
    let P : Plane → Type 0 = λ plane. All (Below (2 + n)) plane.entries in
    subst P (sym ok) (below_after (table_of change.name.table old.config.info) n room old change is h)
below_plane (Err refusals.NoMemory) n room old before new change is h k ok stays undone = let P : Plane → Type 0 = λ plane. All (Below (2 + n)) plane.entries in subst P (sym undone) (weaker n before.entries k)
below_plane (Err (refusals.For cause)) n room old before new change is h k ok stays undone = let P : Plane → Type 0 = λ plane. All (Below (2 + n)) plane.entries in subst P (sym stays) (weaker n old.entries h)

pub former_plane : (n : ℕ) (old new : Plane) → new ≡ old → All (Below (1 + n)) old.entries → All (Below (2 + n)) new.entries
former_plane n old new same h = let P : Plane → Type 0 = λ plane. All (Below (2 + n)) plane.entries in subst P (sym same) (weaker n old.entries h)
