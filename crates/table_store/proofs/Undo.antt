-- Groups that can undo what was changed.
use Rattle.std.proofs.Common.{◌≡◌, ◌≢◌, ◌⊎◌, inl, inr, ℕ, suc, zero, ◌+◌, ◌<◌, List, [], ◌∷◌, ◌++◌, length, get_or, set, take, drop, Result, Ok, Err, OnOk, OnErr, refl, sym, ap, subst, ◌∙◌, arith}
use Rattle.std.specs.List.{AllByRecursion, Contains, insert}
use Rattle.std.proofs.lemmas.List.{set_split, take-append-drop}
use Rattle.std.proofs.lemmas.List.Elements.{Contains-append_left, Contains-append_right}
use Rattle.p4_types.specs.declared.table.Entry.{Entry}
use Rattle.p4_types.specs.declared.table.EntryChange.{EntryChange}
use Rattle.plane_spec.specs.Entries.{inserted, modified}
use Rattle.plane_spec.proofs.Lists.{All-weaken}
use Rattle.match_index.specs.Index.{Covers}
use Rattle.match_index.specs.Order.{AreInOrder}
use Rattle.table_store.specs.declared.groups.Group.{Group}
use Rattle.table_store.specs.Groups.{flat, AreOf, AreGroups, IsAt, IsGap}
use Rattle.table_store.specs.Undo.{was, WasGroup, IsRowStep, IsTouched, IsStep, IsStore}
use Rattle.table_store.proofs.Lists.{each_append, each_front, each_back}
use Rattle.table_store.proofs.OfTable.{both_each, length_inserted, length_modified}
use Rattle.table_store.proofs.ByTable.{split, of_table, below_here, groups_back}

-- ---- lists
each_set : {X : Type 0} (P : X → Type 0) (xs : List X) (i : ℕ) (x : X) → AllByRecursion P xs → P x → AllByRecursion P (set xs i x)
each_set P [] i x h own = tt
each_set P (y ∷ xs) zero x h own = (own, h.1)
each_set P (y ∷ xs) (suc i) x h own = (h.0, each_set P xs i x h.1 own)

each_insert : {X : Type 0} (P : X → Type 0) (xs : List X) (i : ℕ) (x : X) → AllByRecursion P xs → P x → AllByRecursion P (insert xs i x)
each_insert P xs zero x h own = (own, h)
each_insert P [] (suc i) x h own = (own, tt)
each_insert P (y ∷ xs) (suc i) x h own = (h.0, each_insert P xs i x h.1 own)

each_at : {X : Type 0} (P : X → Type 0) (xs : List X) (i : ℕ) (x : X) → AllByRecursion P xs → i < length xs → x ≡ get_or xs i x → P x
each_at P [] i x h in_range read = absurd (omega (arith, in_range))
each_at P (y ∷ xs) zero x h in_range read = subst P (sym read) h.0
each_at P (y ∷ xs) (suc i) x h in_range read = each_at P xs i x h.1 (omega (arith, in_range)) read

was_set : (groups : List Group) (place : ℕ) (g h : Group) → g ≡ get_or groups place g → h.entries.before ≡ g.entries.before → was (set groups place h) ≡ was groups
was_set [] place g h read same = refl
was_set (first ∷ groups) zero g h read same = ap (λ xs. xs ++ was groups) (same ∙ ap (λ x. x.entries.before) read)
was_set (first ∷ groups) (suc place) g h read same = ap (λ xs. first.entries.before ++ xs) (was_set groups place g h read same)

was_insert : (groups : List Group) (place : ℕ) (h : Group) → h.entries.before ≡ [] → was (insert groups place h) ≡ was groups
was_insert groups zero h none = ap (λ xs. xs ++ was groups) none
was_insert [] (suc place) h none = ap (λ xs. xs ++ []) none
was_insert (first ∷ groups) (suc place) h none = ap (λ xs. first.entries.before ++ xs) (was_insert groups place h none)

-- ---- touched tables
touched_more : (tables : List ℕ) (table : ℕ) (g : Group) → IsTouched tables g → IsTouched (tables ++ table ∷ []) g
touched_more tables table g (inl one) = inl (Contains-append_left tables (table ∷ []) g.table one)
touched_more tables table g (inr same) = inr same

touched_last : (tables : List ℕ) (table : ℕ) (g : Group) → table ≡ g.table → IsTouched (tables ++ table ∷ []) g
touched_last tables table g is = inl (Contains-append_right tables (table ∷ []) g.table (0, omega arith, is))

all_more : (tables : List ℕ) (table : ℕ) (groups : List Group) → AllByRecursion (IsTouched tables) groups → AllByRecursion (IsTouched (tables ++ table ∷ [])) groups
all_more tables table groups h = All-weaken (IsTouched tables) (IsTouched (tables ++ table ∷ [])) (λ g touched. touched_more tables table g touched) groups h

-- nothing is changed
pub step_none : (table : ℕ) (groups : List Group) → IsStep table groups groups
step_none table groups = record { before = refl; kept = λ h. h; touched = λ tables h. all_more tables table groups h }

-- the group of the table is changed
pub step_set : (groups : List Group) (are : AreGroups groups) (table place : ℕ) (at : IsAt groups table place) (g : Group) (read : g ≡ get_or groups place g) (h : Group)
    → IsRowStep g h → IsStep table groups (set groups place h)
step_set groups are table place at g read h step = record {
  before = was_set groups place g h read step.before;
  kept = λ kept. each_set WasGroup groups place h kept (step.was (each_at WasGroup groups place g kept at.in_range read));
  touched = λ tables touched. each_set (IsTouched (tables ++ table ∷ [])) groups place h (all_more tables table groups touched)
      (touched_last tables table h (sym (of_table groups are table place at g read) ∙ step.table));
}

-- a group is opened for the table
pub step_insert : (groups : List Group) (table place : ℕ) (h : Group) → table ≡ h.table → h.entries.before ≡ [] → IsStep table groups (insert groups place h)
step_insert groups table place h same none = record {
  before = was_insert groups place h none;
  kept = λ kept. each_insert WasGroup groups place h kept (record { table = subst (AreOf h.table) (sym none) tt; order = subst AreInOrder (sym none) tt; covers = subst (Covers h.index) (sym none) tt });
  touched = λ tables touched. each_insert (IsTouched (tables ++ table ∷ [])) groups place h (all_more tables table groups touched) (touched_last tables table h same);
}

-- ---- a table less
one_of : (table t : ℕ) (tables : List ℕ) (k : ℕ) → k < suc (length tables) → get_or (table ∷ tables) k t ≡ t → (table ≡ t) ⊎ Contains tables t
one_of table t tables zero below is = inl is
one_of table t tables (suc k) below is = inr (k, omega (arith, below), is)

touched_less : (tables : List ℕ) (table : ℕ) (g : Group) → table ≢ g.table → IsTouched (table ∷ tables) g → IsTouched tables g
touched_less tables table g other (inr same) = inr same
touched_less tables table g other (inl one) = less (one_of table g.table tables one.0 one.1 one.2)
  where
    less : (table ≡ g.table) ⊎ Contains tables g.table → IsTouched tables g
    less (inl is) = absurd (other is)
    less (inr rest) = inl rest

below_less : (tables : List ℕ) (table : ℕ) (groups : List Group) → AllByRecursion (λ g. g.table < table) groups → AllByRecursion (IsTouched (table ∷ tables)) groups → AllByRecursion (IsTouched tables) groups
below_less tables table groups below touched =
    All-weaken (λ g. (g.table < table) × IsTouched (table ∷ tables) g) (IsTouched tables) (λ g h. touched_less tables table g (λ is. omega (arith, h.0, is)) h.1) groups
    (both_each (λ g. g.table < table) (IsTouched (table ∷ tables)) groups below touched)

above_less : (tables : List ℕ) (table : ℕ) (groups : List Group) → AllByRecursion (λ g. table < g.table) groups → AllByRecursion (IsTouched (table ∷ tables)) groups → AllByRecursion (IsTouched tables) groups
above_less tables table groups above touched =
    All-weaken (λ g. (table < g.table) × IsTouched (table ∷ tables) g) (IsTouched tables) (λ g h. touched_less tables table g (λ is. omega (arith, h.0, is)) h.1) groups
    (both_each (λ g. table < g.table) (IsTouched (table ∷ tables)) groups above touched)

-- the group of the table is as it was before, and the others do not belong to the table
pub less_set : (groups : List Group) (are : AreGroups groups) (table place : ℕ) (at : IsAt groups table place) (g : Group) (read : g ≡ get_or groups place g) (h : Group)
    → h.entries.before ≡ h.entries.items → (tables : List ℕ) → AllByRecursion (IsTouched (table ∷ tables)) groups → AllByRecursion (IsTouched tables) (set groups place h)
less_set groups are table place at g read h settled tables touched =
    let P = IsTouched (table ∷ tables) in
    let before : List Group = take place groups in
    let after : List Group = drop (suc place) groups in
    let cut_at = split groups are table place at g read in
    let own = of_table groups are table place at g read in
    let parts : AllByRecursion P (take place groups ++ drop place groups) = subst (AllByRecursion P) (sym (take-append-drop place groups)) touched in
    let set_parts : AllByRecursion P (before ++ h ∷ after) = subst (AllByRecursion P) (set_split groups place h at.in_range) (each_set P groups place h touched (inr settled)) in
    subst (AllByRecursion (IsTouched tables)) (sym (set_split groups place h at.in_range))
    (each_append (IsTouched tables) before (h ∷ after)
    (below_less tables table before (subst (λ t. AllByRecursion (λ x. x.table < t) before) own (below_here before g after cut_at)) (each_front P before (h ∷ after) set_parts))
    (inr settled, above_less tables table after (subst (λ t. AllByRecursion (λ x. t < x.table) after) own (groups_back before (g ∷ after) cut_at).1) (each_back P before (h ∷ after) set_parts).1))

-- the table has no group
pub less_gap : (groups : List Group) (table place : ℕ) (gap : IsGap groups table place) (tables : List ℕ) → AllByRecursion (IsTouched (table ∷ tables)) groups → AllByRecursion (IsTouched tables) groups
less_gap groups table place gap tables touched =
    let P = IsTouched (table ∷ tables) in
    let parts : AllByRecursion P (take place groups ++ drop place groups) = subst (AllByRecursion P) (sym (take-append-drop place groups)) touched in
    subst (AllByRecursion (IsTouched tables)) (take-append-drop place groups)
    (each_append (IsTouched tables) (take place groups) (drop place groups)
    (below_less tables table (take place groups) gap.below (each_front P (take place groups) (drop place groups) parts))
    (above_less tables table (drop place groups) gap.above (each_back P (take place groups) (drop place groups) parts)))

-- ---- the group of the table is restored
pub was_at : (groups : List Group) (place : ℕ) (g : Group) → place < length groups → g ≡ get_or groups place g → AllByRecursion WasGroup groups → WasGroup g
was_at groups place g in_range read kept = each_at WasGroup groups place g kept in_range read

pub restored_was : (groups : List Group) (place : ℕ) (g h : Group) → g ≡ get_or groups place g → h.entries.before ≡ g.entries.before → was (set groups place h) ≡ was groups
restored_was groups place g h read same = was_set groups place g h read same

pub restored_kept : (groups : List Group) (place : ℕ) (h : Group) → WasGroup h → AllByRecursion WasGroup groups → AllByRecursion WasGroup (set groups place h)
restored_kept groups place h is kept = each_set WasGroup groups place h kept is

-- ---- no table is touched
settled_one : (g : Group) → IsTouched [] g → g.entries.before ≡ g.entries.items
settled_one g (inl one) = absurd (omega (arith, one.1))
settled_one g (inr same) = same

pub settled_was : (groups : List Group) → AllByRecursion (IsTouched []) groups → was groups ≡ flat groups
settled_was [] settled = refl
settled_was (g ∷ groups) settled = rw (settled_one g settled.0, settled_was groups settled.1) refl

pub settled_kept : (groups : List Group) → AreGroups groups → AllByRecursion (IsTouched []) groups → AllByRecursion WasGroup groups
settled_kept [] are settled = tt
settled_kept (g ∷ groups) are settled = (
  (let same = settled_one g settled.0 in record { table = subst (AreOf g.table) (sym same) are.0.table; order = subst AreInOrder (sym same) are.0.order; covers = subst (Covers g.index) (sym same) are.0.covers }),
  settled_kept groups are.2 settled.1,
)

-- ---- a store after a change
pub store_after : (old new : List Group) (table count count_after count_before : ℕ) (tables more : List ℕ) → IsStore old count count_before tables → IsStep table old new → AreGroups new
    → more ≡ tables ++ table ∷ [] → count_after ≡ length (flat new) → IsStore new count_after count_before more
store_after old new table count count_after count_before tables more h step are more_is is = record {
  groups = are;
  entries = is;
  kept = step.kept h.kept;
  former = h.former ∙ ap length (sym step.before);
  touched = subst (λ ts. AllByRecursion (IsTouched ts) new) (sym more_is) (step.touched tables h.touched);
}

-- the number of entries
pub counted_same : (count : ℕ) (old new : List Entry) → count ≡ length old → new ≡ old → count ≡ length new
counted_same count old new is same = is ∙ ap length (sym same)

pub counted_more : (count more : ℕ) (entry : Entry) (old new : List Entry) → count ≡ length old → more ≡ count + 1 → new ≡ inserted entry old → more ≡ length new
counted_more count more entry old new is one made = one ∙ ap (λ n. n + 1) is ∙ sym (length_inserted entry old) ∙ ap length (sym made)

pub counted_changed : (count : ℕ) (change : EntryChange) (old new : List Entry) → count ≡ length old → new ≡ modified change old → count ≡ length new
counted_changed count change old new is made = is ∙ sym (length_modified change old) ∙ ap length (sym made)

pub counted_by : {T E : Type 0} (r : Result T E) (count : ℕ) (change : EntryChange) (old new : List Entry) → count ≡ length old → OnOk r (new ≡ modified change old) → OnErr r (new ≡ old) → count ≡ length new
counted_by (Ok x) count change old new is made same = counted_changed count change old new is made
counted_by (Err e) count change old new is made same = counted_same count old new is same

-- a store whose changes are kept or undone: nothing can be undone
pub settled_store : (groups : List Group) (count : ℕ) (tables : List ℕ) → AreGroups groups → count ≡ length (flat groups) → AllByRecursion (IsTouched []) groups → tables ≡ [] → IsStore groups count count tables
settled_store groups count tables are is settled none = record {
  groups = are;
  entries = is;
  kept = settled_kept groups are settled;
  former = is ∙ ap length (sym (settled_was groups settled));
  touched = subst (λ (ts : List ℕ). AllByRecursion (IsTouched ts) groups) (sym none) settled;
}
