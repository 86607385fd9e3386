-- What a change makes of the group of a table, and of its index.
use Rattle.std.proofs.Common.{◌≡◌, ◌≢◌, ℕ, Bool, true, false, if◌then◌else◌, not, eqb, List, [], ◌∷◌, ◌++◌, None, sym, subst}
use Rattle.std.specs.List.{position}
use Rattle.p4_types.specs.declared.keys.FieldTest.{FieldTest}
use Rattle.p4_types.specs.declared.table.Entry.{Entry}
use Rattle.p4_types.specs.declared.table.EntryChange.{EntryChange}
use Rattle.p4_types.specs.declared.table.EntryName.{EntryName}
use Rattle.plane_spec.specs.Entries.{same_name, with_change, modified, deleted}
use Rattle.plane_spec.proofs.Lists.{All-weaken, All-snoc, All-filter}
use Rattle.plane_spec.proofs.Names.{itself}
use Rattle.match_index.specs.declared.index.MatchIndex.{MatchIndex}
use Rattle.match_index.specs.Index.{has_row, Covers, KeepsRows}
use Rattle.match_index.specs.Order.{AreInOrder}
use Rattle.table_store.specs.declared.groups.Group.{Group}
use Rattle.table_store.specs.Groups.{AreOf, IsFresh, IsGroup}
use Rattle.table_store.specs.Undo.{WasGroup, IsRowStep}
use Rattle.table_store.proofs.Lists.{each_map, none_at}
use Rattle.table_store.proofs.OfTable.{both_each}
use Rattle.table_store.proofs.OneTable.{one, order_modified, order_deleted, order_push}
use Rattle.table_store.proofs.ByTable.{table_modified, table_deleted}

pub keeps_same : (old new : MatchIndex) → new ≡ old → KeepsRows old new
keeps_same old new same = λ tests seq has. subst (λ (index : MatchIndex). has_row index tests seq ≡ true) (sym same) has

covers_kept : (old new : MatchIndex) (xs : List Entry) → KeepsRows old new → Covers old xs → Covers new xs
covers_kept old new xs keeps covers = All-weaken (λ e. has_row old e.name.tests e.seq ≡ true) (λ e. has_row new e.name.tests e.seq ≡ true) (λ e h. keeps e.name.tests e.seq h) xs covers

-- the group before the changes that can be undone
pub row_step : (old new : Group) → old.table ≡ new.table → new.entries.before ≡ old.entries.before → KeepsRows old.index new.index → IsRowStep old new
row_step old new same before keeps = record {
  table = same;
  before = before;
  was = λ was. record {
    table = subst (λ t. AreOf t new.entries.before) same (subst (AreOf old.table) (sym before) was.table);
    order = subst AreInOrder (sym before) was.order;
    covers = subst (Covers new.index) (sym before) (covers_kept old.index new.index old.entries.before keeps was.covers);
  };
}

module _ (old new : Group) (same : old.table ≡ new.table) (keeps : KeepsRows old.index new.index) (is : IsGroup old) where
  pub group_same : new.entries.items ≡ old.entries.items → IsGroup new
  group_same made = record {
    table = subst (λ t. AreOf t new.entries.items) same (subst (AreOf old.table) (sym made) is.table);
    order = subst AreInOrder (sym made) is.order;
    covers = subst (Covers new.index) (sym made) (covers_kept old.index new.index old.entries.items keeps is.covers);
  }

  pub group_added : (entry : Entry) → new.entries.items ≡ old.entries.items ++ entry ∷ [] → has_row new.index entry.name.tests entry.seq ≡ true → entry.name.table ≡ old.table → IsFresh entry old.entries.items → IsGroup new
  group_added entry made row of fresh = record {
    table = subst (λ t. AreOf t new.entries.items) same (subst (AreOf old.table) (sym made) (All-snoc (λ e. e.name.table ≡ old.table) old.entries.items entry is.table of));
    order = subst AreInOrder (sym made) (order_push old.entries.items entry is.order fresh);
    covers = subst (Covers new.index) (sym made) (All-snoc (λ e. has_row new.index e.name.tests e.seq ≡ true) old.entries.items entry (covers_kept old.index new.index old.entries.items keeps is.covers) row);
  }

  row_stays : (change : EntryChange) (b : Bool) (e : Entry) → has_row new.index e.name.tests e.seq ≡ true → has_row new.index (if b then with_change change e else e).name.tests (if b then with_change change e else e).seq ≡ true
  row_stays change true e h = h
  row_stays change false e h = h

  rows_modified : (change : EntryChange) (xs : List Entry) → Covers new.index xs → Covers new.index (modified change xs)
  unfolding modified
  rows_modified change xs h = each_map (λ e. has_row new.index e.name.tests e.seq ≡ true) (one change) (λ e k. row_stays change (same_name change.name e.name) e k) xs h

  pub group_changed : (change : EntryChange) → new.entries.items ≡ modified change old.entries.items → IsGroup new
  group_changed change made = record {
    table = subst (λ t. AreOf t new.entries.items) same (subst (AreOf old.table) (sym made) (table_modified change old.table old.entries.items is.table));
    order = subst AreInOrder (sym made) (order_modified change old.entries.items is.order);
    covers = subst (Covers new.index) (sym made) (rows_modified change old.entries.items (covers_kept old.index new.index old.entries.items keeps is.covers));
  }

  rows_deleted : (name : EntryName) (xs : List Entry) → Covers new.index xs → Covers new.index (deleted name xs)
  unfolding deleted
  rows_deleted name xs h = All-filter (λ e. has_row new.index e.name.tests e.seq ≡ true) (λ e. not (same_name name e.name)) xs h

  pub group_deleted : (name : EntryName) → new.entries.items ≡ deleted name old.entries.items → IsGroup new
  group_deleted name made = record {
    table = subst (λ t. AreOf t new.entries.items) same (subst (AreOf old.table) (sym made) (table_deleted name old.table old.entries.items is.table));
    order = subst AreInOrder (sym made) (order_deleted name old.entries.items is.order);
    covers = subst (Covers new.index) (sym made) (rows_deleted name old.entries.items (covers_kept old.index new.index old.entries.items keeps is.covers));
  }

-- the group is as it was before the changes
pub group_restored : (old new : Group) → old.table ≡ new.table → new.index ≡ old.index → new.entries.items ≡ old.entries.before → WasGroup old → IsGroup new
group_restored old new same index made was = record {
  table = subst (λ t. AreOf t new.entries.items) same (subst (AreOf old.table) (sym made) was.table);
  order = subst AreInOrder (sym made) was.order;
  covers = subst (Covers new.index) (sym made) (covers_kept old.index new.index old.entries.before (keeps_same old.index new.index index) was.covers);
}

pub was_settled : (group : Group) → group.entries.before ≡ group.entries.items → IsGroup group → WasGroup group
was_settled group same is = record {
  table = subst (AreOf group.table) (sym same) is.table;
  order = subst AreInOrder (sym same) is.order;
  covers = subst (Covers group.index) (sym same) is.covers;
}

-- ---- a row whose entry is gone
differs : (a b : ℕ) → eqb a b ≡ false → a ≢ b
differs a b h = λ same. let t : eqb a b ≡ true = subst (λ (n : ℕ). eqb n b ≡ true) (sym same) (itself b) in cc

pub forgot : (old new : MatchIndex) (entries : List Entry) (seq : ℕ) → ((tests : List FieldTest) (other : ℕ) → other ≢ seq → has_row old tests other ≡ true → has_row new tests other ≡ true) → position (λ e. eqb e.seq seq) entries ≡ None
    → Covers old entries → Covers new entries
forgot old new entries seq keeps gone covers =
    All-weaken (λ e. (eqb e.seq seq ≡ false) × (has_row old e.name.tests e.seq ≡ true)) (λ e. has_row new e.name.tests e.seq ≡ true) (λ e h. keeps e.name.tests e.seq (differs e.seq seq h.0) h.1) entries
    (both_each (λ e. eqb e.seq seq ≡ false) (λ e. has_row old e.name.tests e.seq ≡ true) entries (none_at (λ e. eqb e.seq seq) entries gone) covers)
