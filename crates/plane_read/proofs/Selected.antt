-- Which entries are selected.
use Rattle.std.proofs.Common.{◌≡◌, ℕ, ◌<◌, suc, Bool, true, false, ◌&&◌, ◌||◌, ◌==◌, List, [], ◌∷◌, filter, find, length, Option, Some, None, refl, ap, ◌∙◌, subst, arith, slice_index_or}
use Rattle.std.specs.List.{AllPairs}
use Rattle.std.proofs.lemmas.List.Elements.{filter_agree}
use Rattle.p4_types.specs.declared.info.Table.{Table}
use Rattle.p4_types.specs.declared.messages.TableEntry.{TableEntry}
use Rattle.p4_types.specs.declared.table.Entry.{Entry}
use Rattle.p4_types.specs.declared.table.EntryName.{EntryName}
use Rattle.plane_spec.specs.Entries.{same_name}
use Rattle.switch_spec.specs.Reading.{selects}
use Rattle.plane_spec.specs.UpdateRules.{has_match, name_of}
use Rattle.plane_read.specs.Answered.{has_priority}
use Rattle.plane_spec.specs.Order.{StandsBefore}
use Rattle.plane_spec.proofs.Names.{names_equal}

twice_at : {X : Type 0} (b : Bool) (p q : X → Bool) (x : X) (xs : List X) → q x ≡ b → filter p (filter q xs) ≡ filter (λ y. q y && p y) xs → filter p (filter q (x ∷ xs)) ≡ filter (λ y. q y && p y) (x ∷ xs)
twice_at true p q x xs e others = rw (e, others)
twice_at false p q x xs e others = rw (e, others)

-- two filters are one
twice : {X : Type 0} (p q : X → Bool) (xs : List X) → filter p (filter q xs) ≡ filter (λ y. q y && p y) xs
twice p q [] = refl
twice p q (x ∷ xs) = twice_at (q x) p q x xs refl (twice p q xs)

-- entries of one table by their priority
pub of_table : (asked : TableEntry) (entries : List Entry) → (asked.table_id == 0) ≡ false → filter (has_priority asked.priority) (filter (λ entry. entry.name.table == asked.table_id) entries) ≡ filter (selects None asked) entries
of_table asked entries h =
    twice (has_priority asked.priority) (λ entry. entry.name.table == asked.table_id) entries
    ∙ filter_agree (λ entry. (entry.name.table == asked.table_id) && has_priority asked.priority entry) (selects None asked) (λ entry. rw h) entries

-- where no match is given, the table is of no account
pub unmatched : (table : Table) (asked : TableEntry) (entries : List Entry) → has_match asked ≡ false → filter (selects None asked) entries ≡ filter (selects (Some table) asked) entries
unmatched table asked entries h = filter_agree (selects None asked) (selects (Some table) asked) (λ entry. rw h) entries

asked_at : (b c : Bool) (x y : Bool) → (b ≡ true → y ≡ true) → b ≡ ((x || y) && b)
asked_at true c x y h = let e = h refl in rw e (or_true x)
  where
    or_true : (x : Bool) → true ≡ ((x || true) && true)
    or_true true = refl
    or_true false = refl
asked_at false c x y h = and_false (x || y)
  where
    and_false : (x : Bool) → false ≡ (x && false)
    and_false true = refl
    and_false false = refl

same_table : (name : EntryName) (entry : Entry) → same_name name entry.name ≡ true → (entry.name.table == name.table) ≡ true
same_table name entry h = let e : name ≡ entry.name = names_equal name entry.name h in let f : name.table ≡ entry.name.table = ap (λ n. n.table) e in grind arith

-- entries by their match
pub matched : (table : Table) (asked : TableEntry) (entries : List Entry) → has_match asked ≡ true → filter (λ entry. same_name (name_of (Some table) asked) entry.name) entries ≡ filter (selects (Some table) asked) entries
matched table asked entries h =
    filter_agree (λ entry. same_name (name_of (Some table) asked) entry.name) (selects (Some table) asked)
    (λ entry. rw h (asked_at (same_name (name_of (Some table) asked) entry.name) true (asked.table_id == 0) (entry.name.table == asked.table_id) (same_table (name_of (Some table) asked) entry))) entries

-- none of those behind the one that has the name
none_at : (b : Bool) (p : Entry → Bool) (y : Entry) (ys : List Entry) → p y ≡ b → (b ≡ true → ⊥) → filter p ys ≡ [] → filter p (y ∷ ys) ≡ []
none_at true p y ys e differs others = absurd (differs refl)
none_at false p y ys e differs others = rw e others

none : (p : Entry → Bool) (x : Entry) (xs : List Entry) → ((y : Entry) → p y ≡ true → StandsBefore x y → ⊥) → ((i : ℕ) (d : Entry) → i < length xs → StandsBefore x (slice_index_or xs i d)) → filter p xs ≡ []
none p x [] apart before = refl
none p x (y ∷ ys) apart before =
    none_at (p y) p y ys refl (λ e. apart y e (before 0 y (omega arith))) (none p x ys apart (λ i d h. before (suc i) d (omega arith)))

-- the entry that is found, if one is
abbrev pub listed : Option Entry → List Entry
listed None = []
listed (Some entry) = entry ∷ []

only_at : (b : Bool) (p : Entry → Bool) (x : Entry) (xs : List Entry) → p x ≡ b → (b ≡ true → filter p xs ≡ []) → filter p xs ≡ listed (find p xs) → filter p (x ∷ xs) ≡ listed (find p (x ∷ xs))
only_at true p x xs e first others = rw e (ap (λ list. x ∷ list) (first refl))
only_at false p x xs e first others = rw e others

only : (p : Entry → Bool) (xs : List Entry) → ((x y : Entry) → p x ≡ true → p y ≡ true → StandsBefore x y → ⊥) → AllPairs StandsBefore xs → filter p xs ≡ listed (find p xs)
only p [] apart order = refl
only p (x ∷ xs) apart order =
    only_at (p x) p x xs refl (λ e. none p x xs (λ y f. apart x y e f) (λ i d h. order 0 (suc i) d (omega arith) (omega arith)))
    (only p xs apart (λ i j d h k. order (suc i) (suc j) d (omega arith) (omega arith)))

clash : (b : Bool) → b ≡ true → b ≡ false → ⊥
clash b h k = cc

apart : (name : EntryName) (a b : Entry) → same_name name a.name ≡ true → same_name name b.name ≡ true → StandsBefore a b → ⊥
apart name a b h k order =
    clash (same_name a.name b.name) (subst (λ (n : EntryName). same_name n b.name ≡ true) (names_equal name a.name h) k) order.1

-- one entry at most has a name
pub named : (name : EntryName) (entries : List Entry) → AllPairs StandsBefore entries → filter (λ entry. same_name name entry.name) entries ≡ listed (find (λ entry. same_name name entry.name) entries)
named name entries order = only (λ entry. same_name name entry.name) entries (λ x y. apart name x y) order
