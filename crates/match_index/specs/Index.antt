-- The rows of an index, and the entries that it covers.
use Rattle.std.specs.Prelude.{◌≡◌, ℕ, Bool, true, List, []}
use Rattle.std.specs.List.{AllByRecursion}
use Rattle.p4_types.specs.declared.keys.FieldTest.{FieldTest}
use Rattle.p4_types.specs.declared.table.Entry.{Entry}
use Rattle.match_index.specs.declared.index.MatchIndex.{MatchIndex}
use Rattle.match_index.specs.declared.index.Row.{Row}
use Rattle.match_index.specs.Cuts.{name_print}
use Rattle.match_index.specs.Shapes as shapes

-- the index has a row of the tests and of that sequence number
abbrev pub has_row : MatchIndex → List FieldTest → ℕ → Bool
has_row index tests seq = shapes.has_row index.shapes.items tests seq

-- what finds the row of the tests and of that sequence number
abbrev pub row_of : List FieldTest → ℕ → Row
row_of tests seq = record { print = name_print tests; seq = seq }

-- it has a row of each entry
abbrev pub Covers : MatchIndex → List Entry → Type 0
Covers index entries = AllByRecursion (λ entry. has_row index entry.name.tests entry.seq ≡ true) entries

-- no row is gone
abbrev pub KeepsRows : MatchIndex → MatchIndex → Type 0
KeepsRows old new = (tests : List FieldTest) (seq : ℕ) → has_row old tests seq ≡ true → has_row new tests seq ≡ true

-- it has no rows
abbrev pub IsEmpty : MatchIndex → Type 0
IsEmpty index = index.shapes.items ≡ []
