-- Rows by their shapes.
use Rattle.std.specs.Prelude.{◌≡◌, ◌≢◌, ℕ, ◌==◌, ◌<◌, Bool, true, false, length, List, [], ◌∷◌, map, get_or, Option, Some, None, if◌then◌else◌}
use Rattle.std.specs.List.{find, list_any, HoldsAt}
use Rattle.p4_types.specs.declared.keys.FieldTest.{FieldTest}
use Rattle.match_index.specs.declared.shapes.Shape.{Shape}
use Rattle.match_index.specs.Bins.{at, AreEmpty}
use Rattle.match_index.specs.Cuts.{cut_of, has_cuts, name_print}

-- the shape of tests
abbrev pub shape_of : List Shape → List FieldTest → Option Shape
shape_of shapes tests = find (λ shape. has_cuts shape.cuts.items tests) shapes

-- the numbers in the bin that a row of the tests has in its shape
abbrev pub numbers_in : Option Shape → List FieldTest → List ℕ
numbers_in None tests = []
numbers_in (Some shape) tests = at shape.bins (name_print tests)

abbrev pub numbers_of : List Shape → List FieldTest → List ℕ
numbers_of shapes tests = numbers_in (shape_of shapes tests) tests

-- a number is in the list
abbrev pub has_number : ℕ → List ℕ → Bool
has_number seq numbers = list_any (λ other. other == seq) numbers

-- there is a row of the tests and of that sequence number
abbrev pub has_row : List Shape → List FieldTest → ℕ → Bool
has_row shapes tests seq = has_number seq (numbers_of shapes tests)

-- the shape at the place has no row
pub record IsEmptyAt (shapes : List Shape) (place : ℕ) : Type 0 where
  pub in_range : place < length shapes
  pub empty : HoldsAt (λ shape. AreEmpty shape.bins) shapes place

-- the shape has the row alone
pub record IsOnlyRow (tests : List FieldTest) (seq : ℕ) (shape : Shape) : Type 0 where
  pub cuts : shape.cuts.items ≡ map cut_of tests
  pub row : (print : ℕ) → at shape.bins print ≡ (if name_print tests == print then seq ∷ [] else [])

-- the rows are as they were
abbrev pub AreSameRows : List Shape → List Shape → Type 0
AreSameRows old new = (tests : List FieldTest) (seq : ℕ) → has_row new tests seq ≡ has_row old tests seq

-- the row is there, those of the other numbers are as they were, and none is gone
pub record AddsRow (old new : List Shape) (tests : List FieldTest) (seq : ℕ) : Type 0 where
  pub here : has_row new tests seq ≡ true
  pub others : (others : List FieldTest) (other : ℕ) → other ≢ seq → has_row new others other ≡ has_row old others other
  pub kept : (others : List FieldTest) (other : ℕ) → has_row old others other ≡ true → has_row new others other ≡ true

-- the rows of the other numbers stay
abbrev pub KeepsOthers : List Shape → List Shape → ℕ → Type 0
KeepsOthers old new seq = (others : List FieldTest) (other : ℕ) → other ≢ seq → has_row old others other ≡ true → has_row new others other ≡ true

-- the bins of the fingerprint of the first so many shapes have no such number
abbrev pub AreClear : ℕ → ℕ → ℕ → List Shape → Type 0
AreClear print seq count shapes = (place : ℕ) (d : Shape) → place < count → has_number seq (at (get_or shapes place d).bins print) ≡ false

-- there is no row of the fingerprint and of that sequence number
abbrev pub IsGone : List Shape → ℕ → ℕ → Type 0
IsGone shapes print seq = (tests : List FieldTest) → name_print tests ≡ print → has_row shapes tests seq ≡ false
