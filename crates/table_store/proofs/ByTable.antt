-- The entries of the groups, in one list, about one table: those of lower tables, its own, and those of higher ones.
use Rattle.std.proofs.Common.{◌≡◌, ℕ, suc, ◌+◌, ◌<◌, ◌≤◌, Bool, true, false, if◌then◌else◌, not, eqb, ltb, leb, List, [], ◌∷◌, ◌++◌, length, get_or, set, take, drop, append_assoc, length-append, None, is_some, refl, sym, ap, subst, ◌∙◌, arith}
use Rattle.std.specs.Prelude.{filter, map}
use Rattle.std.specs.List.{AllByRecursion, insert}
use Rattle.std.proofs.lemmas.Bool.{false≢true}
use Rattle.std.proofs.lemmas.Bool.Decides.{nat_tests}
use Rattle.std.proofs.lemmas.List.{set_split, set-get_or, map-append, append-nil, take-append-drop}
use Rattle.std.proofs.lemmas.List.Concat.{flat_map-append}
use Rattle.std.proofs.lemmas.List.Elements.{filter-append}
use Rattle.p4_types.specs.declared.table.Entry.{Entry}
use Rattle.p4_types.specs.declared.table.EntryChange.{EntryChange}
use Rattle.p4_types.specs.declared.table.EntryName.{EntryName}
use Rattle.plane_spec.specs.Entries.{same_name, with_change, entry_named, best, inserted, modified, deleted}
use Rattle.plane_spec.proofs.Lists.{All-weaken, All-filter}
use Rattle.match_index.specs.Order.{IsBefore}
use Rattle.table_store.specs.declared.groups.Group.{Group}
use Rattle.table_store.specs.Groups.{flat, AreOf, IsFresh, IsGroup, AreGroups, IsAt, IsGap}
use Rattle.table_store.proofs.Lists.{each_append, each_front, each_back, each_map, filter_all, filter_none}
use Rattle.table_store.proofs.OfTable.{named_of_table, best_of_table}
use Rattle.table_store.proofs.OneTable.{one, length_deleted, unchanged, kept}

pub record Splits (table : ℕ) (before mine after : List Entry) : Type 0 where
  pub below : AllByRecursion (λ e. e.name.table < table) before
  pub equal : AreOf table mine
  pub above : AllByRecursion (λ e. table < e.name.table) after

equals : (a b : ℕ) → a ≡ b → eqb a b ≡ true
equals a b h = grind (arith, nat_tests)

pub lower : (a b : ℕ) → a < b → eqb a b ≡ false
lower a b h = grind (arith, nat_tests)

higher : (a b : ℕ) → b < a → eqb a b ≡ false
higher a b h = grind (arith, nat_tests)

at_most : (a b c : ℕ) → a ≤ b → b ≡ c → leb a c ≡ true
at_most a b c h k = grind (arith, nat_tests)

above_it : (a b c : ℕ) → b < a → b ≡ c → leb a c ≡ false
above_it a b c h k = grind (arith, nat_tests)

not_above : (a b c : ℕ) → a ≤ b → b ≡ c → ltb c a ≡ false
not_above a b c h k = grind (arith, nat_tests)

is_above : (a b c : ℕ) → b < a → b ≡ c → ltb c a ≡ true
is_above a b c h k = grind (arith, nat_tests)

-- a name of another table
pub elsewhere : (name other : EntryName) → eqb name.table other.table ≡ false → same_name name other ≡ false
elsewhere name other h = rw h refl

parts : (p : Entry → Bool) (before mine after : List Entry) → filter p (before ++ (mine ++ after)) ≡ filter p before ++ (filter p mine ++ filter p after)
parts p before mine after = filter-append p before (mine ++ after) ∙ ap (λ xs. filter p before ++ xs) (filter-append p mine after)

three : (b c m n a d : List Entry) → b ≡ c → m ≡ n → a ≡ d → b ++ (m ++ a) ≡ c ++ (n ++ d)
three b c m n a d e f g = cc

module _ (table : ℕ) (before mine after : List Entry) (s : Splits table before mine after) where
  pub split_filter : filter (λ e. eqb e.name.table table) (before ++ (mine ++ after)) ≡ mine
  split_filter =
      let p : Entry → Bool = λ e. eqb e.name.table table in
      parts p before mine after
      ∙ three _ [] _ mine _ []
      (filter_none p before (All-weaken (λ e. e.name.table < table) (λ e. p e ≡ false) (λ e h. lower e.name.table table h) before s.below))
      (filter_all p mine (All-weaken (λ e. e.name.table ≡ table) (λ e. p e ≡ true) (λ e h. equals e.name.table table h) mine s.equal))
      (filter_none p after (All-weaken (λ e. table < e.name.table) (λ e. p e ≡ false) (λ e h. higher e.name.table table h) after s.above))
      ∙ append-nil mine

  -- no entry of another table has a name of this one
  before_others : (name : EntryName) → name.table ≡ table → AllByRecursion (λ e. same_name name e.name ≡ false) before
  before_others name same = All-weaken (λ e. e.name.table < table) (λ e. same_name name e.name ≡ false) (λ e h. elsewhere name e.name (higher name.table e.name.table (rw same h))) before s.below

  after_others : (name : EntryName) → name.table ≡ table → AllByRecursion (λ e. same_name name e.name ≡ false) after
  after_others name same = All-weaken (λ e. table < e.name.table) (λ e. same_name name e.name ≡ false) (λ e h. elsewhere name e.name (lower name.table e.name.table (rw same h))) after s.above

  pub split_modified : (change : EntryChange) → change.name.table ≡ table → modified change (before ++ (mine ++ after)) ≡ before ++ (modified change mine ++ after)
  unfolding modified
  split_modified change same =
      map-append (one change) before (mine ++ after)
      ∙ ap (λ xs. map (one change) before ++ xs) (map-append (one change) mine after)
      ∙ three _ before _ (map (one change) mine) _ after (unchanged change before (before_others change.name same)) refl (unchanged change after (after_others change.name same))

  pub split_deleted : (name : EntryName) → name.table ≡ table → deleted name (before ++ (mine ++ after)) ≡ before ++ (deleted name mine ++ after)
  unfolding deleted
  split_deleted name same =
      parts (λ e. not (same_name name e.name)) before mine after
      ∙ three _ before _ (deleted name mine) _ after (kept name before (before_others name same)) refl (kept name after (after_others name same))

  pub split_inserted : (entry : Entry) → table ≡ entry.name.table → inserted entry (before ++ (mine ++ after)) ≡ before ++ ((mine ++ entry ∷ []) ++ after)
  unfolding inserted
  split_inserted entry same =
      let low : Entry → Bool = λ e. leb e.name.table entry.name.table in
      let high : Entry → Bool = λ e. ltb entry.name.table e.name.table in
      let lows : filter low (before ++ (mine ++ after)) ≡ before ++ (mine ++ []) = parts low before mine after
      ∙ three _ before _ mine _ []
      (filter_all low before (All-weaken (λ e. e.name.table < table) (λ e. low e ≡ true) (λ e h. at_most e.name.table table entry.name.table (omega arith) same) before s.below))
      (filter_all low mine (All-weaken (λ e. e.name.table ≡ table) (λ e. low e ≡ true) (λ e h. at_most e.name.table table entry.name.table (omega arith) same) mine s.equal))
      (filter_none low after (All-weaken (λ e. table < e.name.table) (λ e. low e ≡ false) (λ e h. above_it e.name.table table entry.name.table h same) after s.above)) in
      let highs : filter high (before ++ (mine ++ after)) ≡ [] ++ ([] ++ after) = parts high before mine after
      ∙ three _ [] _ [] _ after
      (filter_none high before (All-weaken (λ e. e.name.table < table) (λ e. high e ≡ false) (λ e h. not_above e.name.table table entry.name.table (omega arith) same) before s.below))
      (filter_none high mine (All-weaken (λ e. e.name.table ≡ table) (λ e. high e ≡ false) (λ e h. not_above e.name.table table entry.name.table (omega arith) same) mine s.equal))
      (filter_all high after (All-weaken (λ e. table < e.name.table) (λ e. high e ≡ true) (λ e h. is_above e.name.table table entry.name.table h same) after s.above)) in
      joined _ _ lows highs
    where
      joined : (xs ys : List Entry) → xs ≡ before ++ (mine ++ []) → ys ≡ [] ++ ([] ++ after) → xs ++ entry ∷ ys ≡ before ++ ((mine ++ entry ∷ []) ++ after)
      joined xs ys e f = rw (e, f, append-nil mine) (append_assoc before mine (entry ∷ after) ∙ ap (λ zs. before ++ zs) (sym (append_assoc mine (entry ∷ []) after)))

-- ---- the groups
below_flat : (table : ℕ) (groups : List Group) → AreGroups groups → AllByRecursion (λ g. g.table < table) groups → AllByRecursion (λ e. e.name.table < table) (flat groups)
below_flat table [] are below = tt
below_flat table (g ∷ groups) are below =
    each_append (λ e. e.name.table < table) g.entries.items (flat groups)
    (All-weaken (λ e. e.name.table ≡ g.table) (λ e. e.name.table < table) (λ e same. rw same below.0) g.entries.items are.0.table)
    (below_flat table groups are.2 below.1)

pub above_flat : (table : ℕ) (groups : List Group) → AreGroups groups → AllByRecursion (λ g. table < g.table) groups → AllByRecursion (λ e. table < e.name.table) (flat groups)
above_flat table [] are above = tt
above_flat table (g ∷ groups) are above =
    each_append (λ e. table < e.name.table) g.entries.items (flat groups)
    (All-weaken (λ e. e.name.table ≡ g.table) (λ e. table < e.name.table) (λ e same. rw same above.0) g.entries.items are.0.table)
    (above_flat table groups are.2 above.1)

groups_front : (before after : List Group) → AreGroups (before ++ after) → AreGroups before
groups_front [] after are = tt
groups_front (g ∷ before) after are = (are.0, each_front (λ h. g.table < h.table) before after are.1, groups_front before after are.2)

pub groups_back : (before after : List Group) → AreGroups (before ++ after) → AreGroups after
groups_back [] after are = are
groups_back (g ∷ before) after are = groups_back before after are.2

pub below_here : (before : List Group) (g : Group) (after : List Group) → AreGroups (before ++ g ∷ after) → AllByRecursion (λ h. h.table < g.table) before
below_here [] g after are = tt
below_here (b ∷ before) g after are = ((each_back (λ h. b.table < h.table) before (g ∷ after) are.1).0, below_here before g after are.2)

replaced : (before : List Group) (g h : Group) (after : List Group) → AreGroups (before ++ g ∷ after) → g.table ≡ h.table → IsGroup h → AreGroups (before ++ h ∷ after)
replaced [] g h after are same is = (is, subst (λ t. AllByRecursion (λ o. t < o.table) after) same are.1, are.2)
replaced (b ∷ before) g h after are same is =
    let back = each_back (λ o. b.table < o.table) before (g ∷ after) are.1 in
    (are.0, each_append (λ o. b.table < o.table) before (h ∷ after) (each_front (λ o. b.table < o.table) before (g ∷ after) are.1) (subst (λ t. b.table < t) same back.0, back.1), replaced before g h after are.2 same is)

placed : (before : List Group) (g : Group) (after : List Group) → AreGroups (before ++ after) → AllByRecursion (λ h. h.table < g.table) before → AllByRecursion (λ h. g.table < h.table) after → IsGroup g → AreGroups (before ++ g ∷ after)
placed [] g after are below above is = (is, above, are)
placed (b ∷ before) g after are below above is =
    (are.0, each_append (λ o. b.table < o.table) before (g ∷ after) (each_front (λ o. b.table < o.table) before after are.1) (below.0, each_back (λ o. b.table < o.table) before after are.1), placed before g after are.2 below.1 above is)

flat_at : (before : List Group) (g : Group) (after : List Group) → flat (before ++ g ∷ after) ≡ flat before ++ (g.entries.items ++ flat after)
flat_at before g after = flat_map-append (λ group. group.entries.items) before (g ∷ after)

same_table : (change : EntryChange) (table : ℕ) (b : Bool) (e : Entry) → e.name.table ≡ table → (if b then with_change change e else e).name.table ≡ table
same_table change table true e h = h
same_table change table false e h = h

pub table_modified : (change : EntryChange) (table : ℕ) (xs : List Entry) → AreOf table xs → AreOf table (modified change xs)
unfolding modified
table_modified change table xs h = each_map (λ e. e.name.table ≡ table) (one change) (λ e k. same_table change table (same_name change.name e.name) e k) xs h

pub table_deleted : (name : EntryName) (table : ℕ) (xs : List Entry) → AreOf table xs → AreOf table (deleted name xs)
unfolding deleted
table_deleted name table xs h = All-filter (λ e. e.name.table ≡ table) (λ e. not (same_name name e.name)) xs h

longer : (xs ys m n b a : List Entry) → xs ≡ b ++ (m ++ a) → ys ≡ b ++ (n ++ a) → length m + 1 ≡ length n → length xs + 1 ≡ length ys
longer xs ys m n b a e f shorter = rw (e, f) (simp length-append (omega arith))

-- ---- the group of the table stands at the place
module _ (groups : List Group) (are : AreGroups groups) (table place : ℕ) (at : IsAt groups table place) (g : Group) (read : g ≡ get_or groups place g) where
  before : List Group
  before = take place groups

  after : List Group
  after = drop (suc place) groups

  is : groups ≡ take place groups ++ g ∷ drop (suc place) groups
  is = sym (set-get_or groups place g) ∙ set_split groups place (get_or groups place g) at.in_range ∙ ap (λ x. take place groups ++ x ∷ drop (suc place) groups) (sym read)

  pub split : AreGroups (take place groups ++ g ∷ drop (suc place) groups)
  split = subst AreGroups is are

  pub here : IsGroup g
  here = (groups_back (take place groups) (g ∷ drop (suc place) groups) split).0

  pub of_table : g.table ≡ table
  of_table = ap (λ x. x.table) read ∙ at.table_is g

  splits : Splits table (flat (take place groups)) g.entries.items (flat (drop (suc place) groups))
  splits =
      let back = groups_back (take place groups) (g ∷ drop (suc place) groups) split in
      let s : Splits g.table (flat (take place groups)) g.entries.items (flat (drop (suc place) groups)) = record {
        below = below_flat g.table (take place groups) (groups_front (take place groups) (g ∷ drop (suc place) groups) split) (below_here (take place groups) g (drop (suc place) groups) split);
        equal = here.table;
        above = above_flat g.table (drop (suc place) groups) back.2 back.1;
      } in
      subst (λ t. Splits t (flat (take place groups)) g.entries.items (flat (drop (suc place) groups))) of_table s

  flat_is : flat groups ≡ flat (take place groups) ++ (g.entries.items ++ flat (drop (suc place) groups))
  flat_is = ap flat is ∙ flat_at (take place groups) g (drop (suc place) groups)

  flat_set : (h : Group) → flat (set groups place h) ≡ flat (take place groups) ++ (h.entries.items ++ flat (drop (suc place) groups))
  flat_set h = ap flat (set_split groups place h at.in_range) ∙ flat_at (take place groups) h (drop (suc place) groups)

  pub groups_set : (h : Group) → g.table ≡ h.table → IsGroup h → AreGroups (set groups place h)
  groups_set h same ok = subst AreGroups (sym (set_split groups place h at.in_range)) (replaced (take place groups) g h (drop (suc place) groups) split same ok)

  -- a group that is written back with the same entries
  pub flat_same : (h : Group) → h.entries.items ≡ g.entries.items → flat (set groups place h) ≡ flat groups
  flat_same h same = flat_set h ∙ ap (λ xs. flat (take place groups) ++ (xs ++ flat (drop (suc place) groups))) same ∙ sym flat_is

  pub entries_at : g.entries.items ≡ filter (λ e. eqb e.name.table table) (flat groups)
  entries_at = sym (ap (λ xs. filter (λ e. eqb e.name.table table) xs) flat_is ∙ split_filter table _ _ _ splits)

  pub flat_modified : (h : Group) (change : EntryChange) → change.name.table ≡ table → h.entries.items ≡ modified change g.entries.items → flat (set groups place h) ≡ modified change (flat groups)
  flat_modified h change same made =
      flat_set h
      ∙ ap (λ xs. flat (take place groups) ++ (xs ++ flat (drop (suc place) groups))) made
      ∙ sym (ap (λ xs. modified change xs) flat_is ∙ split_modified table _ _ _ splits change same)

  pub flat_deleted : (h : Group) (name : EntryName) → name.table ≡ table → h.entries.items ≡ deleted name g.entries.items → flat (set groups place h) ≡ deleted name (flat groups)
  flat_deleted h name same made =
      flat_set h
      ∙ ap (λ xs. flat (take place groups) ++ (xs ++ flat (drop (suc place) groups))) made
      ∙ sym (ap (λ xs. deleted name xs) flat_is ∙ split_deleted table _ _ _ splits name same)

  pub named_here : (name : EntryName) → name.table ≡ table → entry_named name g.entries.items ≡ entry_named name (flat groups)
  named_here name same = ap (λ xs. entry_named name xs) entries_at ∙ ap (λ t. entry_named name (filter (λ e. eqb e.name.table t) (flat groups))) (sym same) ∙ named_of_table name (flat groups)

  pub length_deleted_at : (h : Group) (name : EntryName) → name.table ≡ table → h.entries.items ≡ deleted name g.entries.items → is_some (entry_named name (flat groups)) ≡ true → length (flat (set groups place h)) + 1 ≡ length (flat groups)
  length_deleted_at h name same made found =
      let shorter : length (deleted name g.entries.items) + 1 ≡ length g.entries.items = length_deleted name g.entries.items here.order (ap is_some (named_here name same) ∙ found) in
      longer _ _ h.entries.items g.entries.items (flat (take place groups)) (flat (drop (suc place) groups)) (flat_set h) flat_is (rw made shorter)

  pub flat_inserted : (h : Group) (entry : Entry) → table ≡ entry.name.table → h.entries.items ≡ g.entries.items ++ entry ∷ [] → flat (set groups place h) ≡ inserted entry (flat groups)
  flat_inserted h entry same made =
      flat_set h
      ∙ ap (λ xs. flat (take place groups) ++ (xs ++ flat (drop (suc place) groups))) made
      ∙ sym (ap (λ xs. inserted entry xs) flat_is ∙ split_inserted table _ _ _ splits entry same)

  pub fresh_here : (entry : Entry) → IsFresh entry (flat groups) → IsFresh entry g.entries.items
  fresh_here entry fresh = each_front (λ o. IsBefore o entry) g.entries.items (flat (drop (suc place) groups)) (each_back (λ o. IsBefore o entry) (flat (take place groups)) _ (subst (IsFresh entry) flat_is fresh))

  pub best_here : (key : List ℕ) → best table key g.entries.items ≡ best table key (flat groups)
  best_here key = ap (λ xs. best table key xs) entries_at ∙ best_of_table table key (flat groups)

-- ---- the table has no group
module _ (groups : List Group) (are : AreGroups groups) (table place : ℕ) (gap : IsGap groups table place) where
  cut : groups ≡ take place groups ++ drop place groups
  cut = sym (take-append-drop place groups)

  split_gap : AreGroups (take place groups ++ drop place groups)
  split_gap = subst AreGroups cut are

  splits_gap : Splits table (flat (take place groups)) [] (flat (drop place groups))
  splits_gap = record {
    below = below_flat table (take place groups) (groups_front (take place groups) (drop place groups) split_gap) gap.below;
    equal = tt;
    above = above_flat table (drop place groups) (groups_back (take place groups) (drop place groups) split_gap) gap.above;
  }

  flat_gap : flat groups ≡ flat (take place groups) ++ ([] ++ flat (drop place groups))
  flat_gap = ap flat cut ∙ flat_map-append (λ group. group.entries.items) (take place groups) (drop place groups)

  pub no_entries : [] ≡ filter (λ e. eqb e.name.table table) (flat groups)
  no_entries = sym (ap (λ xs. filter (λ e. eqb e.name.table table) xs) flat_gap ∙ split_filter table _ [] _ splits_gap)

  pub none_modified : (change : EntryChange) → change.name.table ≡ table → flat groups ≡ modified change (flat groups)
  none_modified change same = flat_gap ∙ sym (ap (λ xs. modified change xs) flat_gap ∙ split_modified table _ [] _ splits_gap change same ∙ ap (λ xs. flat (take place groups) ++ (xs ++ flat (drop place groups))) (unchanged change [] tt))

  pub none_deleted : (name : EntryName) → name.table ≡ table → flat groups ≡ deleted name (flat groups)
  none_deleted name same = flat_gap ∙ sym (ap (λ xs. deleted name xs) flat_gap ∙ split_deleted table _ [] _ splits_gap name same ∙ ap (λ xs. flat (take place groups) ++ (xs ++ flat (drop place groups))) (kept name [] tt))

  pub not_named : (name : EntryName) → name.table ≡ table → None ≡ entry_named name (flat groups)
  unfolding entry_named
  not_named name same = ap (λ xs. entry_named name xs) no_entries ∙ ap (λ t. entry_named name (filter (λ e. eqb e.name.table t) (flat groups))) (sym same) ∙ named_of_table name (flat groups)

  pub not_best : (key : List ℕ) → None ≡ best table key (flat groups)
  unfolding best
  not_best key = ap (λ xs. best table key xs) no_entries ∙ best_of_table table key (flat groups)

  pub none_named : (name : EntryName) → name.table ≡ table → is_some (entry_named name (flat groups)) ≡ true → length (flat groups) + 1 ≡ length (flat groups)
  none_named name same found = absurd (false≢true (ap is_some (not_named name same) ∙ found))

  pub flat_opened : (h : Group) (entry : Entry) → table ≡ entry.name.table → h.entries.items ≡ entry ∷ [] → flat (insert groups place h) ≡ inserted entry (flat groups)
  flat_opened h entry same made =
      flat_at (take place groups) h (drop place groups)
      ∙ ap (λ xs. flat (take place groups) ++ (xs ++ flat (drop place groups))) made
      ∙ sym (ap (λ xs. inserted entry xs) flat_gap ∙ split_inserted table _ [] _ splits_gap entry same)

  pub groups_opened : (h : Group) → table ≡ h.table → IsGroup h → AreGroups (insert groups place h)
  groups_opened h same ok = placed (take place groups) h (drop place groups) split_gap
      (subst (λ t. AllByRecursion (λ o. o.table < t) (take place groups)) same gap.below)
      (subst (λ t. AllByRecursion (λ o. t < o.table) (drop place groups)) same gap.above) ok
