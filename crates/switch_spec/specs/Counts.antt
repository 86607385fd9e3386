-- What a report says of counters (P4Runtime 1.3.0, "Counter & DirectCounter Entries"; the lines: this project's profile).
use Rattle.std.specs.Prelude.{ℕ, zero, suc, ◌+◌, ◌*◌, ◌==◌, nat_lt, Bool, false, if◌then◌else◌, List, [], ◌∷◌, ◌++◌, length, fold, count_by, sum_by, Option, Some, None}
use Rattle.std.specs.List.{filter_map}
use Rattle.p4_types.specs.declared.info.Counter.{Counter}
use Rattle.p4_types.specs.declared.journal.CellLine.{CellLine}
use Rattle.p4_types.specs.declared.journal.CountLine.{CountLine}
use Rattle.p4_types.specs.declared.records.HitMark.{HitMark}
use Rattle.p4_types.specs.declared.records.HitMark.TheVariants as marks
use Rattle.p4_types.specs.declared.records.Record.{Record}
use Rattle.p4_types.specs.declared.table.Entry.{Entry}
use Rattle.plane_spec.specs.Planes.{Plane}

-- the packets and bytes that the counter of each slot has counted
abbrev pub Figures : Type 0
Figures = ℕ → ℕ × ℕ

-- the figures of counters that have counted nothing
abbrev pub no_figures : Figures
no_figures slot = (0, 0)

-- a packet with the port at which it enters
abbrev pub Arrival : Type 0
Arrival = ℕ × List ℕ

-- a packet beside its record
pub record Carried : Type 0 where
  pub arrival : Arrival
  pub outcome : Record

-- a hit of the entry with this sequence number
abbrev pub is_of_entry : ℕ → HitMark → Bool
is_of_entry seq (marks.Entry table other slot) = other == seq
is_of_entry seq (marks.Cell slot) = false

-- a hit of the cell with this slot
abbrev pub is_of_cell : ℕ → HitMark → Bool
is_of_cell slot (marks.Entry table seq direct) = false
is_of_cell slot (marks.Cell other) = other == slot

-- how many hits of such a kind the records have
abbrev pub packets_counted : (HitMark → Bool) → List Carried → ℕ
packets_counted test records = sum_by (λ carried. count_by test carried.outcome.hits) records

-- the bytes of the packets that had them, each as it entered
abbrev pub bytes_counted : (HitMark → Bool) → List Carried → ℕ
bytes_counted test records = sum_by (λ carried. count_by test carried.outcome.hits * length carried.arrival.1) records

-- the line of an entry that has this slot, if it has one
abbrev pub count_by_slot : Option ℕ → List Carried → Entry → Option CountLine
count_by_slot None records entry = None
count_by_slot (Some slot) records entry = Some (record {
  seq = entry.seq;
  table = entry.name.table;
  packets = packets_counted (is_of_entry entry.seq) records;
  bytes = bytes_counted (is_of_entry entry.seq) records;
})

-- the line of an entry whose table has a direct counter
abbrev pub count_of : List Carried → Entry → Option CountLine
count_of records entry = count_by_slot entry.slot records entry

-- a line behind those of lower sequence numbers
abbrev pub count_placed : CountLine → List CountLine → List CountLine
count_placed line [] = line ∷ []
count_placed line (other ∷ lines) = if nat_lt line.seq other.seq then line ∷ other ∷ lines else other ∷ count_placed line lines

-- the lines of a plane's entries, by rising sequence number
abbrev pub counts_in : Option Plane → List Carried → List CountLine
counts_in None records = []
counts_in (Some plane) records = fold (λ lines line. count_placed line lines) [] (filter_map (count_of records) plane.entries)

-- ---- The same by the figures of slots, as counters keep them

-- a hit of an entry that has this slot
abbrev pub is_slot : ℕ → Option ℕ → Bool
is_slot slot None = false
is_slot slot (Some other) = other == slot

-- a hit that the counter of this slot counts: of its entry, or of its cell
abbrev pub is_of_slot : ℕ → HitMark → Bool
is_of_slot slot (marks.Entry table seq own) = is_slot slot own
is_of_slot slot (marks.Cell other) = other == slot

-- the figures behind a packet with these hits that entered with so many bytes
abbrev pub figures_after : Figures → List HitMark → ℕ → Figures
figures_after g hits bytes slot = ((g slot).0 + count_by (is_of_slot slot) hits, (g slot).1 + count_by (is_of_slot slot) hits * bytes)

-- the figures behind one packet more
abbrev pub counted : Figures → Carried → Figures
counted g carried = figures_after g carried.outcome.hits (length carried.arrival.1)

-- the line of an entry that has this slot, if it has one
abbrev pub line_by_slot : Figures → Entry → Option ℕ → Option CountLine
line_by_slot g entry None = None
line_by_slot g entry (Some slot) = Some (record { seq = entry.seq; table = entry.name.table; packets = (g slot).0; bytes = (g slot).1 })

-- the line of an entry whose table has a direct counter
abbrev pub line_of : Figures → Entry → Option CountLine
line_of g entry = line_by_slot g entry entry.slot

-- the lines of a plane's entries, by rising sequence number
abbrev pub count_lines : Figures → Option Plane → List CountLine
count_lines g None = []
count_lines g (Some plane) = fold (λ lines line. count_placed line lines) [] (filter_map (line_of g) plane.entries)

-- the line of a cell, if it counted something
abbrev pub cell_line : Figures → ℕ → ℕ → ℕ → List CellLine
cell_line g slot counter index = if (g slot).0 == 0 then [] else (record { slot = slot; counter = counter; index = index; packets = (g slot).0; bytes = (g slot).1 }) ∷ []

-- the lines of so many cells of a counter, from this slot and this index on
abbrev pub cell_lines_from : ℕ → Figures → ℕ → ℕ → ℕ → List CellLine
cell_lines_from zero g slot counter index = []
cell_lines_from (suc more) g slot counter index = cell_line g slot counter index ++ cell_lines_from more g (slot + 1) counter (index + 1)

-- the lines of counters, whose cells have the slots from this one on
abbrev pub cell_lines_of : Figures → ℕ → List Counter → List CellLine
cell_lines_of g slot [] = []
cell_lines_of g slot (counter ∷ counters) = cell_lines_from counter.size g slot counter.preamble.id 0 ++ cell_lines_of g (slot + counter.size) counters

-- the lines of a plane's cells, by rising slot
abbrev pub cell_lines : Figures → Option Plane → List CellLine
cell_lines g None = []
cell_lines g (Some plane) = cell_lines_of g plane.cells plane.config.info.counters

-- ---- The lines of cells by the records

-- the lines of so many cells of a counter, from this slot and this index on; those that counted nothing have none
abbrev pub cells_from : ℕ → ℕ → ℕ → ℕ → List Carried → List CellLine
cells_from zero slot counter index records = []
cells_from (suc more) slot counter index records =
    (if packets_counted (is_of_cell slot) records == 0 then [] else (record {
      slot = slot;
      counter = counter;
      index = index;
      packets = packets_counted (is_of_cell slot) records;
      bytes = bytes_counted (is_of_cell slot) records;
    }) ∷ [])
    ++ cells_from more (slot + 1) counter (index + 1) records

-- the lines of counters, whose cells have the slots from this one on
abbrev pub cells_of : ℕ → List Counter → List Carried → List CellLine
cells_of slot [] records = []
cells_of slot (counter ∷ counters) records = cells_from counter.size slot counter.preamble.id 0 records ++ cells_of (slot + counter.size) counters records

-- the lines of a plane's cells, by rising slot
abbrev pub cells_in : Option Plane → List Carried → List CellLine
cells_in None records = []
cells_in (Some plane) records = cells_of plane.cells plane.config.info.counters records
