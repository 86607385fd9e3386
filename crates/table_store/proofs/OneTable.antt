-- What a change makes of the entries of one table.
use Rattle.std.proofs.Common.{◌≡◌, ℕ, suc, zero, ◌+◌, ◌<◌, Bool, true, false, cond, not, if◌then◌else◌, List, [], ◌∷◌, ◌++◌, length, get_or, set, Some, None, is_some, refl, sym, ap, subst, ◌∙◌, arith}
use Rattle.std.specs.Prelude.{filter, map, find}
use Rattle.std.specs.List.{AllByRecursion, position, remove}
use Rattle.std.proofs.lemmas.Bool.{not_from_false}
use Rattle.std.proofs.lemmas.List.Quantifiers.{position-Some}
use Rattle.p4_types.specs.declared.table.Entry.{Entry}
use Rattle.p4_types.specs.declared.table.EntryChange.{EntryChange}
use Rattle.p4_types.specs.declared.table.EntryName.{EntryName}
use Rattle.plane_spec.specs.Entries.{same_name, with_change, modified, deleted, entry_named}
use Rattle.plane_spec.proofs.Lists.{All-weaken, All-snoc, All-filter}
use Rattle.match_index.specs.Order.{IsBefore, AreInOrder}
use Rattle.table_store.proofs.Lists.{none_at, map_none, filter_all}
use Rattle.plane_spec.proofs.Names.{names_equal}

abbrev pub one : EntryChange → Entry → Entry
one change entry = if same_name change.name entry.name then with_change change entry else entry

-- no entry behind the one of that name has the name
others : (name : EntryName) (x : Entry) (xs : List Entry) → same_name name x.name ≡ true → AllByRecursion (IsBefore x) xs → AllByRecursion (λ e. same_name name e.name ≡ false) xs
others name x xs h before = All-weaken (IsBefore x) (λ e. same_name name e.name ≡ false) (λ e b. subst (λ n. same_name n e.name ≡ false) (sym (names_equal name x.name h)) b.1) xs before

-- a change of no entry's name
pub unchanged : (change : EntryChange) (xs : List Entry) → AllByRecursion (λ e. same_name change.name e.name ≡ false) xs → modified change xs ≡ xs
unfolding modified
unchanged change xs h = map_none (one change) xs (All-weaken (λ e. same_name change.name e.name ≡ false) (λ e. one change e ≡ e) (λ e k. rw k refl) xs h)

pub kept : (name : EntryName) (xs : List Entry) → AllByRecursion (λ e. same_name name e.name ≡ false) xs → deleted name xs ≡ xs
unfolding deleted
kept name xs h = filter_all (λ e. not (same_name name e.name)) xs (All-weaken (λ e. same_name name e.name ≡ false) (λ e. not (same_name name e.name) ≡ true) (λ e k. not_from_false _ k) xs h)

pub set_is_modified : (change : EntryChange) (xs : List Entry) (i : ℕ) (d : Entry) → AreInOrder xs → i < length xs → same_name change.name (get_or xs i d).name ≡ true → ((k : ℕ) → k < i → same_name change.name (get_or xs k d).name ≡ false) → set xs i (with_change change (get_or xs i d)) ≡ modified change xs
unfolding modified
set_is_modified change [] i d order in_range passes fails = absurd (omega arith)
set_is_modified change (x ∷ xs) zero d order in_range passes fails = rw passes (ap (λ ys. with_change change x ∷ ys) (sym (unchanged change xs (others change.name x xs passes order.0))))
set_is_modified change (x ∷ xs) (suc i) d order in_range passes fails = rw (fails 0 (omega arith)) (ap (λ ys. x ∷ ys) (set_is_modified change xs i d order.1 (omega arith) passes (λ k below. fails (suc k) (omega arith))))

pub remove_is_deleted : (name : EntryName) (xs : List Entry) (i : ℕ) (d : Entry) → AreInOrder xs → i < length xs → same_name name (get_or xs i d).name ≡ true → ((k : ℕ) → k < i → same_name name (get_or xs k d).name ≡ false) → remove xs i ≡ deleted name xs
unfolding deleted
remove_is_deleted name [] i d order in_range passes fails = absurd (omega arith)
remove_is_deleted name (x ∷ xs) zero d order in_range passes fails = rw passes (sym (kept name xs (others name x xs passes order.0)))
remove_is_deleted name (x ∷ xs) (suc i) d order in_range passes fails = rw (fails 0 (omega arith)) (ap (λ ys. x ∷ ys) (remove_is_deleted name xs i d order.1 (omega arith) passes (λ k below. fails (suc k) (omega arith))))

-- what is written at the place of that name
pub changed_at : (change : EntryChange) (xs : List Entry) (i : ℕ) (e y : Entry) → AreInOrder xs → position (λ x. same_name change.name x.name) xs ≡ Some i → e ≡ get_or xs i e → y ≡ with_change change e
    → set xs i y ≡ modified change xs
changed_at change xs i e y order at read brought =
    let place = position-Some (λ x. same_name change.name x.name) xs i e at in
    ap (λ (x : Entry). set xs i x) brought
    ∙ ap (λ (x : Entry). set xs i (with_change change x)) read
    ∙ set_is_modified change xs i e order place.0 place.1 place.2

pub changed_nowhere : (change : EntryChange) (xs : List Entry) → position (λ x. same_name change.name x.name) xs ≡ None → xs ≡ modified change xs
changed_nowhere change xs none = sym (unchanged change xs (none_at (λ x. same_name change.name x.name) xs none))

pub removed_at : (name : EntryName) (xs ys : List Entry) (i : ℕ) → AreInOrder xs → position (λ x. same_name name x.name) xs ≡ Some i → ys ≡ remove xs i → ys ≡ deleted name xs
removed_at name [] ys i order at without = absurd (cc)
removed_at name (x ∷ xs) ys i order at without =
    let place = position-Some (λ e. same_name name e.name) (x ∷ xs) i x at in
    without ∙ remove_is_deleted name (x ∷ xs) i x order place.0 place.1 place.2

pub removed_nowhere : (name : EntryName) (xs : List Entry) → position (λ x. same_name name x.name) xs ≡ None → xs ≡ deleted name xs
removed_nowhere name xs none = sym (kept name xs (none_at (λ x. same_name name x.name) xs none))

-- what a change keeps in order
same_before : (change : EntryChange) (x y : Entry) (b c : Bool) → IsBefore x y → IsBefore (if b then with_change change x else x) (if c then with_change change y else y)
same_before change x y true true h = h
same_before change x y true false h = h
same_before change x y false true h = h
same_before change x y false false h = h

pub order_modified : (change : EntryChange) (xs : List Entry) → AreInOrder xs → AreInOrder (modified change xs)
unfolding modified
order_modified change [] h = tt
order_modified change (x ∷ xs) h = (stays xs h.0, order_modified change xs h.1)
  where
    stays : (ys : List Entry) → AllByRecursion (IsBefore x) ys → AllByRecursion (IsBefore (one change x)) (map (one change) ys)
    stays [] k = tt
    stays (y ∷ ys) k = (same_before change x y (same_name change.name x.name) (same_name change.name y.name) k.0, stays ys k.1)

order_kept : (b : Bool) (x : Entry) (xs : List Entry) → AllByRecursion (IsBefore x) xs → AreInOrder xs → AreInOrder (cond b (x ∷ xs) xs)
order_kept true x xs h k = (h, k)
order_kept false x xs h k = k

order_filter : (p : Entry → Bool) (xs : List Entry) → AreInOrder xs → AreInOrder (filter p xs)
order_filter p [] h = tt
order_filter p (x ∷ xs) h = order_kept (p x) x (filter p xs) (All-filter (IsBefore x) p xs h.0) (order_filter p xs h.1)

pub order_deleted : (name : EntryName) (xs : List Entry) → AreInOrder xs → AreInOrder (deleted name xs)
unfolding deleted
order_deleted name xs h = order_filter (λ e. not (same_name name e.name)) xs h

-- an entry that every other comes before goes to the end
pub order_push : (xs : List Entry) (x : Entry) → AreInOrder xs → AllByRecursion (λ e. IsBefore e x) xs → AreInOrder (xs ++ x ∷ [])
order_push [] x h k = (tt, tt)
order_push (y ∷ xs) x h k = (All-snoc (IsBefore y) xs x h.0 k.0, order_push xs x h.1 k.1)

less : (name : EntryName) (x : Entry) (xs : List Entry) (b : Bool) → same_name name x.name ≡ b → AllByRecursion (IsBefore x) xs → (is_some (find (λ e. same_name name e.name) xs) ≡ true → length (deleted name xs) + 1 ≡ length xs) → is_some (find (λ e. same_name name e.name) (x ∷ xs)) ≡ true → length (deleted name (x ∷ xs)) + 1 ≡ length (x ∷ xs)
unfolding deleted
less name x xs true h before shorter found = rw h (rw (kept name xs (others name x xs h before)) (omega arith))
less name x xs false h before shorter found = let one : length (deleted name xs) + 1 ≡ length xs = shorter (rw h at found) in rw h (omega arith)

pub length_deleted : (name : EntryName) (xs : List Entry) → AreInOrder xs → is_some (entry_named name xs) ≡ true → length (deleted name xs) + 1 ≡ length xs
unfolding deleted entry_named
length_deleted name [] order found = cc
length_deleted name (x ∷ xs) order found = less name x xs (same_name name x.name) refl order.0 (length_deleted name xs order.1) found
