-- What an index knows, and of which rows it is an index.
use Rattle.std.specs.Prelude.{◌≡◌, ℕ, ◌<◌, ◌≤◌, ◌^◌, ◌==◌, Bool, true, false, List, length, Option, Some, None, is_some, count_by}
use Rattle.std.specs.Option.{option_map}
use Rattle.p4_types.specs.declared.table.Entry.{Entry}
use Rattle.p4_types.specs.declared.table.EntryName.{EntryName}
use Rattle.row_index.specs.declared.asks.Ask.{Ask}
use Rattle.row_index.specs.declared.placed.Placed.{Placed}
use Rattle.row_index.specs.declared.shapes.Shape.{Shape}
use Rattle.row_index.specs.Cuts.{name_print_from, bucket_of}
use Rattle.row_index.specs.Places.{Buckets, place_at}
use Rattle.row_index.specs.Shapes.{count_at, rows_of, FitsAt, AreAsked}

-- what is linked at each place, and the shapes of that
pub record Index : Type 0 where
  pub places : List (Option Placed)
  pub shapes : List Shape

-- how many places there are
abbrev pub places_of : Index → ℕ
places_of index = length index.places

-- a row is linked at the place
abbrev pub is_linked : Index → ℕ → Bool
is_linked index place = is_some (place_at index.places place)

-- What is linked at a place leads to a row of that name: by the row's shape, and by the fingerprint of what its tests compare with.
pub record LeadsTo (shapes : List Shape) (placed : Placed) (name : EntryName) : Type 0 where
  pub shape : FitsAt shapes placed.shape name
  pub print : placed.print ≡ name_print_from placed.shape name.tests

-- what is linked at a place leads to the row there
abbrev pub LeadsToRow : List Shape → Placed → Option Entry → Type 0
LeadsToRow shapes placed None = ⊥
LeadsToRow shapes placed (Some entry) = LeadsTo shapes placed entry.name

-- The index is one of these rows, of which there is one or none at each place: what is linked at a place leads to the row there.
unfoldable pub Indexes : Index → (ℕ → Option Entry) → Type 0
Indexes index rows = (place : ℕ) (placed : Placed) → place_at index.places place ≡ Some placed → LeadsToRow index.shapes placed (rows place)

-- the row at the place has that name
abbrev pub IsRow : (ℕ → Option Entry) → ℕ → EntryName → Type 0
IsRow rows place name = option_map (λ entry. entry.name) (rows place) ≡ Some name

-- a row more is linked
pub record Links (old new : Index) (place : ℕ) : Type 0 where
  pub here : is_linked new place ≡ true
  pub others : (other : ℕ) → (other ≡ place → ⊥) → is_linked new other ≡ is_linked old other
  pub places : places_of new ≡ places_of old

-- a row less is linked
pub record Unlinks (old new : Index) (place : ℕ) : Type 0 where
  pub here : is_linked new place ≡ false
  pub others : (other : ℕ) → (other ≡ place → ⊥) → is_linked new other ≡ is_linked old other
  pub places : places_of new ≡ places_of old

-- something of that shape is linked
abbrev pub has_shape : ℕ → Option Placed → Bool
has_shape shape None = false
has_shape shape (Some placed) = placed.shape == shape

-- What is linked is in the bucket of its fingerprint, the rows of each shape are counted, and there is room for as many shapes as places.
pub record IsSound (chains : Buckets) (shapes : List Shape) (asks : List Ask) (capacity asks_capacity : ℕ) : Type 0 where
  pub some : 0 < chains.count
  pub buckets : (place : ℕ) (placed : Placed) → place_at chains.places place ≡ Some placed → placed.bucket ≡ bucket_of chains.count placed.print
  pub counted : (shape : ℕ) → count_at shapes shape ≡ count_by (has_shape shape) chains.places
  pub rows : rows_of shapes ≡ count_by is_some chains.places
  pub asked : AreAsked shapes asks
  pub few : length shapes ≤ length chains.places
  pub small : length chains.places < 2 ^ 32
  pub room : length chains.places ≤ capacity
  pub asks_room : length chains.places ≤ asks_capacity
