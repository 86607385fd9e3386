-- What counters of 64 bits have counted at the end of a run, beside what its report says (this project's profile).
use Rattle.std.specs.Prelude.{◌≡◌, ℕ, ◌+◌, ◌%◌, ◌^◌, ◌<◌, ◌≤◌, List, ◌++◌, length}
use Rattle.std.specs.List.{AllByRecursion}
use Rattle.p4_types.specs.declared.events.Start.{Start}
use Rattle.p4_types.specs.declared.tape.TapeRecord.{TapeRecord}
use Rattle.run_counts.specs.Packets.{IsShort}
use Rattle.run_spec.specs.Report.{IsRun}
use Rattle.switch_spec.specs.Carrying.{final}
use Rattle.switch_spec.specs.CountLaws.{figures_of}
use Rattle.switch_spec.specs.Counts.{Figures, Carried, counts_in, cells_in, count_lines, cell_lines}
use Rattle.switch_spec.specs.History.{Made}

-- the packets of two lists have counted what those of each have
abbrev pub FiguresAdd : Type 0
FiguresAdd = (xs ys : List Carried) (slot : ℕ) → figures_of (xs ++ ys) slot ≡ ((figures_of xs slot).0 + (figures_of ys slot).0, (figures_of xs slot).1 + (figures_of ys slot).1)

-- a packet of at most 9,216 bytes has at most 274,560 hits
abbrev pub IsWithin : Carried → Type 0
IsWithin carried = (length carried.outcome.hits ≤ 274560) × IsShort carried.arrival

-- the packets are within these limits, and at most as many as 48 lanes carry of a million each
pub record AreWithin (records : List Carried) : Type 0 where
  pub number : length records ≤ 48000000
  pub each : AllByRecursion IsWithin records

-- what words of 64 bits say that have counted so much
abbrev pub in_words : Figures → Figures
in_words g slot = ((g slot).0 % 2 ^ 64, (g slot).1 % 2 ^ 64)

-- both figures of each slot fit such words
abbrev pub CountsAreExact : Type 0
CountsAreExact = (records : List Carried) (slot : ℕ) → AreWithin records → ((figures_of records slot).0 < 2 ^ 64) × ((figures_of records slot).1 < 2 ^ 64)

-- Of a run, whose lanes carried their packets in any order, the lines by such words are those of its report. Only the words of
-- slots that the switch has are asked for.
abbrev pub TotalsAreCounts : Type 0
TotalsAreCounts = (start : Start) (tape : List TapeRecord) (journal : List Made) (records : List Carried) (totals : Figures)
    → IsRun start tape journal records → AreWithin records → ((slot : ℕ) → slot < start.slots → totals slot ≡ in_words (figures_of records) slot)
    → (count_lines totals (final start journal).active ≡ counts_in (final start journal).active records)
    × (cell_lines totals (final start journal).active ≡ cells_in (final start journal).active records)
