-- What counters keep by slots, beside what the records of packets say (P4Runtime 1.3.0, "Counter & DirectCounter Entries").
use Rattle.std.specs.Prelude.{◌≡◌, List, fold}
use Rattle.std.specs.List.{AllByRecursion}
use Rattle.p4_types.specs.declared.events.Start.{Start}
use Rattle.plane_spec.specs.Config.{Event}
use Rattle.plane_spec.specs.Legal.{Legal}
use Rattle.plane_spec.specs.Planes.{opened, applied}
use Rattle.switch_spec.specs.Counts.{Figures, no_figures, Carried, counted, counts_in, cells_in, count_lines, cell_lines}
use Rattle.switch_spec.specs.Carrying.{Fits}

-- the figures of all records
abbrev pub figures_of : List Carried → Figures
figures_of records = fold counted no_figures records

-- After any events that may follow one another, and packets that fit them, the figures of slots are the packets recorded as
-- hitting the entry or the cell that has the slot.
abbrev pub CountersKeepRecords : Type 0
CountersKeepRecords = (start : Start) (list : List Event) (records : List Carried) → Legal (opened start) list → AllByRecursion (Fits start list) records
    → (count_lines (figures_of records) (applied (opened start) list).active ≡ counts_in (applied (opened start) list).active records)
    × (cell_lines (figures_of records) (applied (opened start) list).active ≡ cells_in (applied (opened start) list).active records)
