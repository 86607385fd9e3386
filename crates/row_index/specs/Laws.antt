-- The answers of an index are those of a flat list of its rows.
use Rattle.std.specs.Prelude.{◌≡◌, ℕ, Bool, true, List, Option, Some, None}
use Rattle.std.specs.List.{Contains}
use Rattle.std.specs.Option.{option_map}
use Rattle.p4_types.specs.declared.table.Entry.{Entry}
use Rattle.p4_types.specs.declared.table.EntryName.{EntryName}
use Rattle.plane_spec.specs.Entries.{best, entry_named, same_name}
use Rattle.row_index.specs.Index.{Index, is_linked, Indexes}
use Rattle.row_index.specs.Best.{IsBest, IsNamed}

-- the row of a place that was found
abbrev pub row_of : (ℕ → Option Entry) → Option ℕ → Option Entry
row_of rows None = None
row_of rows (Some place) = rows place

-- The list has just the linked rows, in any order.
pub record IsFlat (linked : ℕ → Bool) (rows : ℕ → Option Entry) (entries : List Entry) : Type 0 where
  pub each : (place : ℕ) (entry : Entry) → linked place ≡ true → rows place ≡ Some entry → Contains entries entry
  pub only : (entry : Entry) → Contains entries entry → (place : ℕ) × (linked place ≡ true) × (rows place ≡ Some entry)

-- no two have the same sequence number
abbrev pub HaveNumbers : List Entry → Type 0
HaveNumbers entries = (a b : Entry) → Contains entries a → Contains entries b → a.seq ≡ b.seq → a ≡ b

-- no two have the same name
abbrev pub HaveNames : List Entry → Type 0
HaveNames entries = (a b : Entry) → Contains entries a → Contains entries b → same_name a.name b.name ≡ true → a ≡ b

-- the best of an index is the best of the flat list
abbrev pub BestIsFlat : Type 0
BestIsFlat = (linked : ℕ → Bool) (rows : ℕ → Option Entry) (entries : List Entry) (table : ℕ) (key : List ℕ) (found : Option ℕ) → IsFlat linked rows entries → HaveNumbers entries → IsBest linked rows table key found
    → row_of rows found ≡ best table key entries

-- what an index finds by a name is what the flat list has of that name
abbrev pub NamedIsFlat : Type 0
NamedIsFlat = (linked : ℕ → Bool) (rows : ℕ → Option Entry) (entries : List Entry) (name : EntryName) (found : Option ℕ) → IsFlat linked rows entries → HaveNames entries → IsNamed linked rows name found
    → row_of rows found ≡ entry_named name entries

-- an index stays one of its rows while those that are linked keep their names
abbrev pub NamesAlone : Type 0
NamesAlone = (index : Index) (old new : ℕ → Option Entry) → ((place : ℕ) → is_linked index place ≡ true → option_map (λ entry. entry.name) (new place) ≡ option_map (λ entry. entry.name) (old place))
    → Indexes index old → Indexes index new
