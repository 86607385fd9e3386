-- In which order the entries of a table stand.
use Rattle.std.specs.Prelude.{◌≡◌, ◌<◌, false, List, [], ◌∷◌}
use Rattle.std.specs.List.{AllByRecursion}
use Rattle.p4_types.specs.declared.table.Entry.{Entry}
use Rattle.plane_spec.specs.Entries.{same_name}

-- of two entries of one table the former was inserted first, and they have two names
abbrev pub IsBefore : Entry → Entry → Type 0
IsBefore a b = (a.seq < b.seq) × (same_name a.name b.name ≡ false)

-- entries by rising sequence number, no two of one name
abbrev pub AreInOrder : List Entry → Type 0
AreInOrder [] = Unit {0}
AreInOrder (entry ∷ entries) = AllByRecursion (IsBefore entry) entries × AreInOrder entries
