-- How the store keeps its entries: a group of entries for each table.
use Rattle.std.specs.Prelude.{◌≡◌, ℕ, ◌<◌, ◌≤◌, List, [], ◌∷◌, length, take, drop}
use Rattle.std.specs.List.{AllByRecursion, flat_map, HoldsAt}
use Rattle.p4_types.specs.declared.table.Entry.{Entry}
use Rattle.match_index.specs.Index.{Covers}
use Rattle.match_index.specs.Order.{IsBefore, AreInOrder}
use Rattle.table_store.specs.declared.groups.Group.{Group}

-- the entries of the groups, in one list
abbrev pub flat : List Group → List Entry
flat groups = flat_map (λ group. group.entries.items) groups

-- entries of the table
abbrev pub AreOf : ℕ → List Entry → Type 0
AreOf table entries = AllByRecursion (λ entry. entry.name.table ≡ table) entries

-- the entries of a table, in order, each with its row in the index
pub record IsGroup (group : Group) : Type 0 where
  pub table : AreOf group.table group.entries.items
  pub order : AreInOrder group.entries.items
  pub covers : Covers group.index group.entries.items

-- groups by rising table id
abbrev pub AreGroups : List Group → Type 0
AreGroups [] = Unit {0}
AreGroups (group ∷ groups) = IsGroup group × AllByRecursion (λ other. group.table < other.table) groups × AreGroups groups

-- an entry that may go behind the others: of a higher sequence number, and of a name that none has
abbrev pub IsFresh : Entry → List Entry → Type 0
IsFresh entry entries = AllByRecursion (λ other. IsBefore other entry) entries

-- the group of the table stands at the place
pub record IsAt (groups : List Group) (table place : ℕ) : Type 0 where
  pub in_range : place < length groups
  pub table_is : HoldsAt (λ group. group.table ≡ table) groups place

-- the table has no group, and a group of it would go to the place
pub record IsGap (groups : List Group) (table place : ℕ) : Type 0 where
  pub in_range : place ≤ length groups
  pub below : AllByRecursion (λ group. group.table < table) (take place groups)
  pub above : AllByRecursion (λ group. table < group.table) (drop place groups)
