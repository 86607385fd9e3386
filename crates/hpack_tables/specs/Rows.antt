-- The code as the rows of a table.
use Rattle.std.specs.Prelude.{ℕ, ◌+◌, ◌-◌, ◌||◌, nat_lt, nat_le, if◌then◌else◌, List, slice_index, Option, Some, None}
use Rattle.hpack_tables.specs.declared.code.Row.{Row}

-- the symbol whose code has the length of a row and this number, if there is one
abbrev pub symbol_in : Row → List ℕ → ℕ → Option ℕ
symbol_in row symbols code = if nat_lt code row.first_code || nat_le row.count (code - row.first_code) then None else Some (slice_index symbols (row.place + (code - row.first_code)))
