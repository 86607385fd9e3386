-- What is asked of the entries of one table alone, and what is fresh in them.
use Rattle.std.proofs.Common.{◌≡◌, ℕ, ◌+◌, ◌<◌, ◌≤◌, Bool, true, false, ◌||◌, not, leb, ltb, if◌then◌else◌, eqb, cond, List, [], ◌∷◌, ◌++◌, length, Option, Some, None, is_some, refl, sym, ap, subst, ◌∙◌, arith}
use Rattle.std.specs.Prelude.{filter, find, count_by}
use Rattle.std.specs.List.{AllByRecursion, All, list_any}
use Rattle.std.specs.Option.{option_map}
use Rattle.std.proofs.lemmas.Bool.{false_from_ne_true, false≢true, le-leb, lt-leb}
use Rattle.std.proofs.lemmas.List.{length-append, length-map}
use Rattle.std.proofs.lemmas.List.Elements.{recursion_from_All}
use Rattle.std.proofs.lemmas.List.Filters.{length-filter_both}
use Rattle.std.proofs.lemmas.List.Sums.{length-filter}
use Rattle.std.proofs.lemmas.Bool.Decides.{nat_tests}
use Rattle.p4_types.specs.declared.table.Entry.{Entry}
use Rattle.p4_types.specs.declared.table.EntryChange.{EntryChange}
use Rattle.p4_types.specs.declared.table.EntryName.{EntryName}
use Rattle.p4_types.specs.declared.info.Table.{Table}
use Rattle.p4_types.specs.declared.table.Room.{Room}
use Rattle.plane_spec.specs.Entries.{same_name, entry_named, hits, beats, best, inserted, modified, all_pass, new_entry, next_number, table_size, slots_drawn, is_full, insert_cause, absence_cause}
use Rattle.table_store.specs.Groups.{IsFresh}
use Rattle.table_store.proofs.Lists.{find_filter, filter_filter}
use Rattle.table_store.proofs.OneTable.{one}
use Rattle.plane_spec.proofs.Names.{names_equal, name_is_same, itself, both}

of_table : (name other : EntryName) → same_name name other ≡ true → eqb other.table name.table ≡ true
of_table name other h = subst (λ (n : EntryName). eqb n.table name.table ≡ true) (names_equal name other h) (itself name.table)

pub named_of_table : (name : EntryName) (entries : List Entry) → entry_named name (filter (λ e. eqb e.name.table name.table) entries) ≡ entry_named name entries
unfolding entry_named
named_of_table name entries = find_filter (λ e. same_name name e.name) (λ e. eqb e.name.table name.table) (λ e h. of_table name e.name h) entries

pub best_of_table : (table : ℕ) (key : List ℕ) (entries : List Entry) → best table key (filter (λ e. eqb e.name.table table) entries) ≡ best table key entries
unfolding best
best_of_table table key entries =
    ap (λ hitting. find (λ entry. not (list_any (λ other. beats other entry) hitting)) hitting)
    (filter_filter (hits table key) (λ e. eqb e.name.table table) (λ e h. (both (eqb e.name.table table) (all_pass e.name.tests key) h).0) entries)

turned : (a b : EntryName) → same_name a b ≡ false → same_name b a ≡ false
turned a b h = false_from_ne_true (same_name b a) (λ t. false≢true (sym h ∙ subst (λ (n : EntryName). same_name a n ≡ true) (sym (names_equal b a t)) (name_is_same a)))

passed : {X : Type 0} (b : Bool) (x : X) (found : Option X) → cond b (Some x) found ≡ None → (b ≡ false) × (found ≡ None)
passed true x found h = cc
passed false x found h = (refl, h)

unnamed : (name : EntryName) (entries : List Entry) → find (λ e. same_name name e.name) entries ≡ None → AllByRecursion (λ e. same_name e.name name ≡ false) entries
unnamed name [] h = tt
unnamed name (e ∷ entries) h = let k = passed (same_name name e.name) e (find (λ o. same_name name o.name) entries) h in (turned name e.name k.0, unnamed name entries k.1)

pub both_each : {X : Type 0} (P Q : X → Type 0) (xs : List X) → AllByRecursion P xs → AllByRecursion Q xs → AllByRecursion (λ x. P x × Q x) xs
both_each P Q [] h k = tt
both_each P Q (x ∷ xs) h k = ((h.0, k.0), both_each P Q xs h.1 k.1)

no_cause : {X C : Type 0} (found : Option X) (cause : C) (other : Option C) → (if is_some found then Some cause else other) ≡ None → (found ≡ None) × (other ≡ None)
no_cause None cause other h = (refl, h)
no_cause (Some x) cause other h = cc

-- an entry that an INSERT with no cause makes is fresh
pub made_fresh : (entry : Entry) (table : Table) (rows : ℕ) (room : Room) (change : EntryChange) (entries : List Entry) → entry ≡ new_entry table room change → insert_cause table rows room change.name entries ≡ None → All (λ e. e.seq < next_number room) entries → IsFresh entry entries
unfolding insert_cause entry_named
made_fresh entry table rows room change entries made free above =
    let absent = no_cause (find (λ e. same_name change.name e.name) entries) _ _ free in
    subst (λ (x : Entry). IsFresh x entries) (sym made)
    (both_each (λ o. o.seq < next_number room) (λ o. same_name o.name change.name ≡ false) entries (recursion_from_All (λ o. o.seq < next_number room) entries above) (unnamed change.name entries absent.0))

pub is_named : (name : EntryName) (entries : List Entry) → absence_cause name entries ≡ None → is_some (entry_named name entries) ≡ true
unfolding absence_cause
is_named name entries free = there (entry_named name entries) _ free
  where
    there : {X C : Type 0} (found : Option X) (cause : C) → (if is_some found then None else Some cause) ≡ None → is_some found ≡ true
    there (Some x) cause h = refl
    there None cause h = cc

pub is_mapped : {A B : Type 0} (f : A → B) (found : Option A) → is_some (option_map f found) ≡ is_some found
is_mapped f None = refl
is_mapped f (Some x) = refl

by_size : (a r s n : Bool) → a ≡ true → (((a || r) || s) || n) ≡ true
by_size a r s n h = rw h refl

by_room : (a r s n : Bool) → a ≡ false → ((r || s) || n) ≡ (((a || r) || s) || n)
by_room a r s n h = rw h refl

at_most : (m n : ℕ) → leb m n ≡ ltb m (n + 1)
at_most m n = grind (arith, nat_tests)

sizes : (table : Table) (entries own : List Entry) (size : ℕ) → own ≡ filter (λ e. eqb e.name.table table.preamble.id) entries → size ≡ table_size table → leb size (length own) ≡ ltb (table_size table) (count_by (λ e. eqb e.name.table table.preamble.id) entries + 1)
sizes table entries own size is same = at_most size (length own) ∙ rw (is, same, length-filter (λ e. eqb e.name.table table.preamble.id) entries) refl

pub full_by_size : (table : Table) (rows : ℕ) (room : Room) (entries own : List Entry) (size : ℕ) → own ≡ filter (λ e. eqb e.name.table table.preamble.id) entries → size ≡ table_size table → size ≤ length own → leb size (length own) ≡ is_full table rows room entries
full_by_size table rows room entries own size is same full =
    let h = le-leb size (length own) full in
    h ∙ sym (by_size _ (ltb room.rows rows) (ltb room.slots (slots_drawn table)) (ltb room.numbers 1) (sym (sizes table entries own size is same) ∙ h))

pub full_by_room : (table : Table) (rows : ℕ) (room : Room) (entries own : List Entry) (size : ℕ) (lacks : Bool) → own ≡ filter (λ e. eqb e.name.table table.preamble.id) entries → size ≡ table_size table → length own < size → lacks ≡ ((ltb room.rows rows || ltb room.slots (slots_drawn table)) || ltb room.numbers 1) → lacks ≡ is_full table rows room entries
full_by_room table rows room entries own size lacks is same free lack =
    lack ∙ by_room _ (ltb room.rows rows) (ltb room.slots (slots_drawn table)) (ltb room.numbers 1) (sym (sizes table entries own size is same) ∙ lt-leb size (length own) free)

pub length_modified : (change : EntryChange) (entries : List Entry) → length (modified change entries) ≡ length entries
unfolding modified
length_modified change entries = length-map entries (one change)

pub length_inserted : (entry : Entry) (entries : List Entry) → length (inserted entry entries) ≡ length entries + 1
unfolding inserted
length_inserted entry entries =
    let low : Entry → Bool = λ e. leb e.name.table entry.name.table in
    let high : Entry → Bool = λ e. ltb entry.name.table e.name.table in
    let all : length (filter low entries) + length (filter high entries) ≡ length entries = length-filter_both low high (λ e. other e.name.table entry.name.table) entries in
    let two : length (filter low entries ++ entry ∷ filter high entries) ≡ length (filter low entries) + length (entry ∷ filter high entries) = length-append (filter low entries) (entry ∷ filter high entries) in
    omega arith
  where
    other : (a b : ℕ) → ltb b a ≡ not (leb a b)
    other a b = grind (arith, nat_tests)
