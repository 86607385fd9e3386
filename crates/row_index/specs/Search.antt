-- What is offered to a search, and what was found so far.
use Rattle.std.specs.Prelude.{◌≡◌, ℕ, ◌<◌, true, false, List, Option, Some, is_some, count_by}
use Rattle.std.specs.Option.{IsSomeAnd}
use Rattle.p4_types.specs.declared.table.Entry.{Entry}
use Rattle.p4_types.specs.declared.table.EntryName.{EntryName}
use Rattle.plane_spec.specs.Entries.{same_name}
use Rattle.row_index.specs.declared.asks.Ask.{Ask}
use Rattle.row_index.specs.declared.found.Found.{Found}
use Rattle.row_index.specs.declared.placed.Placed.{Placed}
use Rattle.row_index.specs.declared.shapes.Shape.{Shape}
use Rattle.row_index.specs.Cuts.{bucket_of}
use Rattle.row_index.specs.Index.{has_shape, LeadsToRow}
use Rattle.row_index.specs.Places.{Buckets, place_at}
use Rattle.row_index.specs.Shapes.{count_at, AreAsked}

-- What is linked is in the bucket of its fingerprint, leads to its row, and has a shape that is asked.
pub record IsSearchable (chains : Buckets) (shapes : List Shape) (asks : List Ask) (rows : ℕ → Option Entry) : Type 0 where
  pub some : 0 < chains.count
  pub buckets : (place : ℕ) (placed : Placed) → place_at chains.places place ≡ Some placed → placed.bucket ≡ bucket_of chains.count placed.print
  pub counted : (shape : ℕ) → count_at shapes shape ≡ count_by (has_shape shape) chains.places
  pub asked : AreAsked shapes asks
  pub leads : (place : ℕ) (placed : Placed) → place_at chains.places place ≡ Some placed → LeadsToRow shapes placed (rows place)

-- what is linked at the place has that shape and that fingerprint
abbrev pub IsOffered : List (Option Placed) → ℕ → ℕ → ℕ → Type 0
IsOffered places shape print place = IsSomeAnd (place_at places place) (λ placed. (placed.shape ≡ shape) × (placed.print ≡ print))

-- what is linked at the place has that shape
abbrev pub IsOfShape : List (Option Placed) → ℕ → ℕ → Type 0
IsOfShape places shape place = IsSomeAnd (place_at places place) (λ placed. placed.shape ≡ shape)

-- what was found is linked
abbrev pub IsLinked : List (Option Placed) → Found → Type 0
IsLinked places found = is_some (place_at places found.place) ≡ true

-- the row at the place is linked and has that name
abbrev pub IsNamedAt : List (Option Placed) → (ℕ → Option Entry) → EntryName → ℕ → Type 0
IsNamedAt places rows name place = (is_some (place_at places place) ≡ true) × IsSomeAnd (rows place) (λ entry. same_name name entry.name ≡ true)

-- the row at the place has another name
abbrev pub IsOther : (ℕ → Option Entry) → EntryName → ℕ → Type 0
IsOther rows name place = (entry : Entry) → rows place ≡ Some entry → same_name name entry.name ≡ false
