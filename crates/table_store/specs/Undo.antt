-- What the groups held before the changes that can be undone.
use Rattle.std.specs.Prelude.{◌≡◌, ◌⊎◌, ℕ, List, [], ◌∷◌, ◌++◌, length}
use Rattle.std.specs.List.{AllByRecursion, Contains, flat_map}
use Rattle.p4_types.specs.declared.table.Entry.{Entry}
use Rattle.match_index.specs.Index.{Covers}
use Rattle.match_index.specs.Order.{AreInOrder}
use Rattle.table_store.specs.declared.groups.Group.{Group}
use Rattle.table_store.specs.Groups.{flat, AreOf, AreGroups}

-- the entries of a store, and those before the changes that can be undone
pub record StoreVersions : Type 0 where
  pub entries : List Entry
  pub before : List Entry

-- the entries before, in one list
abbrev pub was : List Group → List Entry
was groups = flat_map (λ group. group.entries.before) groups

-- the entries before were those of the group's table, in order, and each still has its row in the index
pub record WasGroup (group : Group) : Type 0 where
  pub table : AreOf group.table group.entries.before
  pub order : AreInOrder group.entries.before
  pub covers : Covers group.index group.entries.before

-- the group is of the same table, and can be undone as before
pub record IsRowStep (old new : Group) : Type 0 where
  pub table : old.table ≡ new.table
  pub before : new.entries.before ≡ old.entries.before
  pub was : WasGroup old → WasGroup new

-- the group's table is one of the tables, or the group is as it was before
abbrev pub IsTouched : List ℕ → Group → Type 0
IsTouched tables group = Contains tables group.table ⊎ (group.entries.before ≡ group.entries.items)

-- what the groups held before stays, and no other table than this one is touched
pub record IsStep (table : ℕ) (old new : List Group) : Type 0 where
  pub before : was new ≡ was old
  pub kept : AllByRecursion WasGroup old → AllByRecursion WasGroup new
  pub touched : (tables : List ℕ) → AllByRecursion (IsTouched tables) old → AllByRecursion (IsTouched (tables ++ table ∷ [])) new

-- the groups of a store of so many entries, where there were so many before and no other tables are touched
pub record IsStore (list : List Group) (count count_before : ℕ) (tables : List ℕ) : Type 0 where
  pub groups : AreGroups list
  pub entries : count ≡ length (flat list)
  pub kept : AllByRecursion WasGroup list
  pub former : count_before ≡ length (was list)
  pub touched : AllByRecursion (IsTouched tables) list
