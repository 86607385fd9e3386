-- Slots of a plane's cells.
use Rattle.std.specs.Prelude.{◌+◌, ◌≤◌}
use Rattle.plane_spec.specs.Config.{cells_in}
use Rattle.plane_spec.specs.Entries.{slot_numbers}
use Rattle.plane_spec.specs.Planes.{Plane}

-- the slots of a plane's cells are within the limit
abbrev pub HasSlots : Plane → Type 0
HasSlots plane = plane.cells + cells_in plane.config ≤ slot_numbers
