-- The rows of an index by their shapes: by which parts of a key's values their tests compare.
use Rattle.std.specs.Prelude.{◌≡◌, ℕ, ◌+◌, ◌-◌, ◌<◌, ◌≤◌, ◌==◌, ◌⊎◌, nat_lt, int_lt, Bool, true, false, List, length, Option, Some, None, if◌then◌else◌, sum_by, count_by, slice_get}
use Rattle.std.specs.List.{All, AllPairs, Contains}
use Rattle.std.specs.Option.{IsSomeAnd}
use Rattle.p4_types.specs.declared.table.EntryName.{EntryName}
use Rattle.plane_spec.specs.Entries.{prefix_length}
use Rattle.row_index.specs.declared.asks.Ask.{Ask}
use Rattle.row_index.specs.declared.shapes.Shape.{Shape}
use Rattle.row_index.specs.Asks.{is_before}
use Rattle.row_index.specs.Cuts.{same_cuts}

abbrev pub count_in : Option Shape → ℕ
count_in None = 0
count_in (Some shape) = shape.count

-- how many rows have the shape of a place
abbrev pub count_at : List Shape → ℕ → ℕ
count_at shapes place = count_in (slice_get shapes place)

-- how many rows there are
abbrev pub rows_of : List Shape → ℕ
rows_of shapes = sum_by (λ shape. shape.count) shapes

-- some row has the shape
abbrev pub is_used : Shape → Bool
is_used shape = nat_lt 0 shape.count

-- each shape has a row
abbrev pub AllUsed : List Shape → Type 0
AllUsed shapes = (place : ℕ) → place < length shapes → 0 < count_at shapes place

-- what is asked of the shape of a place
abbrev pub ask_of : ℕ → Shape → Ask
ask_of place shape = record { table = shape.table; priority = shape.priority; length = shape.length; shape = place }

-- what is asked of a shape of one row alone, of that name
abbrev pub ask_for : ℕ → EntryName → Ask
ask_for place name = record { table = name.table; priority = name.priority; length = prefix_length name.tests; shape = place }

-- a shape of one row alone, of that name
abbrev pub opened : EntryName → Shape
opened name = record { table = name.table; tests = name.tests; count = 1; priority = name.priority; length = prefix_length name.tests }

-- a shape with one row more, and with one less
abbrev pub grown : Shape → Shape
grown shape = record shape { count = shape.count + 1 }

abbrev pub shrunk : Shape → Shape
shrunk shape = record shape { count = shape.count - 1 }

-- a shape whose bounds include a row
abbrev pub widened : EntryName → Shape → Shape
widened name shape = record shape {
  priority = if int_lt shape.priority name.priority then name.priority else shape.priority;
  length = if nat_lt shape.length (prefix_length name.tests) then prefix_length name.tests else shape.length;
}

-- some row has the shape, and a row of that name is of its table and compares the same parts
pub record Matches (name : EntryName) (shape : Shape) : Type 0 where
  pub used : 0 < shape.count
  pub table : shape.table ≡ name.table
  pub cuts : same_cuts shape.tests name.tests ≡ true

abbrev pub MatchesAt : List Shape → ℕ → EntryName → Type 0
MatchesAt shapes place name = IsSomeAnd (slice_get shapes place) (Matches name)

-- A row of that name can have the shape: they are of one table, compare the same parts, and the row's priority and prefix are within the bounds.
pub record Fits (name : EntryName) (shape : Shape) : Type 0 where
  pub table : shape.table ≡ name.table
  pub cuts : same_cuts shape.tests name.tests ≡ true
  pub priority : int_lt shape.priority name.priority ≡ false
  pub prefix : prefix_length name.tests ≤ shape.length

abbrev pub FitsAt : List Shape → ℕ → EntryName → Type 0
FitsAt shapes place name = IsSomeAnd (slice_get shapes place) (Fits name)

-- The asks are in order, and there is one for each shape that some row has.
pub record AreAsked (shapes : List Shape) (asks : List Ask) : Type 0 where
  pub order : AllPairs (λ a b. is_before b a ≡ false) asks
  pub within : All (λ ask. ask.shape < length shapes) asks
  pub asked : (place : ℕ) (shape : Shape) → slice_get shapes place ≡ Some shape → 0 < shape.count → Contains asks (ask_of place shape)
  pub each : length asks ≡ count_by is_used shapes

-- a row that can have the first shape can have the second
abbrev pub Keeps : Option Shape → Option Shape → Type 0
Keeps old new = (name : EntryName) → IsSomeAnd old (Fits name) → IsSomeAnd new (Fits name)

-- One row more, of that name, has the shape of that place, and the others keep theirs.
pub record Joins (old new : List Shape) (place : ℕ) (name : EntryName) : Type 0 where
  pub fits : FitsAt new place name
  pub kept : (other : ℕ) → 0 < count_at old other → Keeps (slice_get old other) (slice_get new other)
  pub counts : (other : ℕ) → count_at new other ≡ count_at old other + (if other == place then 1 else 0)
  pub rows : rows_of new ≡ rows_of old + 1
  pub len : (length new ≡ length old) ⊎ (AllUsed old × (length new ≡ length old + 1))

-- The bounds of the shape of that place include a row of that name, and nothing else is changed.
pub record Raises (old new : List Shape) (place : ℕ) (name : EntryName) : Type 0 where
  pub fits : FitsAt new place name
  pub kept : (other : ℕ) → Keeps (slice_get old other) (slice_get new other)
  pub counts : (other : ℕ) → count_at new other ≡ count_at old other
  pub rows : rows_of new ≡ rows_of old
  pub len : length new ≡ length old

-- One row less has the shape of that place, and the others keep theirs.
pub record Leaves (old new : List Shape) (place : ℕ) : Type 0 where
  pub kept : (other : ℕ) → Keeps (slice_get old other) (slice_get new other)
  pub counts : (other : ℕ) → count_at new other + (if other == place then 1 else 0) ≡ count_at old other
  pub rows : rows_of new + 1 ≡ rows_of old
  pub len : length new ≡ length old

-- The shape stands at the place, at which none that a row has stood, and the others are as they were.
pub record Settles (old new : List Shape) (place : ℕ) (shape : Shape) : Type 0 where
  pub here : slice_get new place ≡ Some shape
  pub free : count_at old place ≡ 0
  pub others : (other : ℕ) → (other ≡ place → ⊥) → slice_get new other ≡ slice_get old other
  pub rows : rows_of new ≡ rows_of old + shape.count
  pub used : count_by is_used new ≡ count_by is_used old + (if is_used shape then 1 else 0)
  pub len : (length new ≡ length old) ⊎ (AllUsed old × (length new ≡ length old + 1))
