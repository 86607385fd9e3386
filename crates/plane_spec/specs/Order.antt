-- How the entries of a plane stand in its list.
use Rattle.std.specs.Prelude.{◌≡◌, ◌<◌, ◌⊎◌, false}
use Rattle.p4_types.specs.declared.table.Entry.{Entry}
use Rattle.plane_spec.specs.Entries.{same_name}

-- One entry stands before another: its table has a lower id, or it was inserted into the same table first. Their names differ.
abbrev pub StandsBefore : Entry → Entry → Type 0
StandsBefore a b = ((a.name.table < b.name.table) ⊎ ((a.name.table ≡ b.name.table) × (a.seq < b.seq))) × (same_name a.name b.name ≡ false)
