-- How the entries of a store stand in its list.
use Rattle.std.specs.Prelude.{◌≡◌, ◌<◌, List, All}
use Rattle.p4_types.specs.declared.table.Entry.{Entry}

-- entries of one table
abbrev pub AreOfOneTable : List Entry → Type 0
AreOfOneTable entries = All (λ a. All (λ b. a.name.table ≡ b.name.table) entries) entries

-- each of the entries is of a table of a lower id than each of the others
abbrev pub AreOfLowerTables : List Entry → List Entry → Type 0
AreOfLowerTables entries others = All (λ a. All (λ b. a.name.table < b.name.table) others) entries
