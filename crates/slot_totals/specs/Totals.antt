-- How totals are kept: the figures of each slot, in a list.
use Rattle.std.specs.Prelude.{ℕ, ◌+◌, ◌*◌, ◌^◌, ◌≤◌, ◌<◌, List, length, All, map, slice_index_or, slice_set, Option, Some, None}
use Rattle.p4_types.specs.declared.records.HitMark.{HitMark}
use Rattle.p4_types.specs.declared.records.HitMark.TheVariants as marks
use Rattle.switch_spec.specs.Counts.{Figures}
use Rattle.slot_totals.specs.declared.figure.Figure.{Figure}

-- the packets and bytes of a counter
abbrev pub pair_of : Figure → ℕ × ℕ
pair_of figure = (figure.packets, figure.bytes)

abbrev pub pairs_of : List Figure → List (ℕ × ℕ)
pairs_of counts = map pair_of counts

-- the figures that are kept; slots that are not kept have counted nothing
abbrev pub figures_in : List Figure → Figures
figures_in counts slot = slice_index_or (pairs_of counts) slot (0, 0)

-- no counter has counted more packets, nor more bytes
pub record AreUnder (packets bytes : ℕ) (counts : List Figure) : Type 0 where
  pub all : All (λ figure. (figure.packets ≤ packets) × (figure.bytes ≤ bytes)) counts

-- what packets had that were so many, each with at most 274,560 hits of at most 9,216 bytes
pub record IsKept (packets : ℕ) (counts : List Figure) : Type 0 where
  pub under : AreUnder (packets * 274560) (packets * 2530344960) counts
  pub slots : length counts ≤ 2 ^ 32

-- the slot that a hit is counted at, if it is counted
abbrev pub slot_of : HitMark → Option ℕ
slot_of (marks.Entry table seq slot) = slot
slot_of (marks.Cell slot) = Some slot

-- the slot, if there is one, is one of so many
abbrev pub IsWithin : ℕ → Option ℕ → Type 0
IsWithin n None = Unit {0}
IsWithin n (Some slot) = slot < n

-- a counter that has counted one packet of so many bytes more
abbrev pub more : ℕ → Figure → Figure
more bytes figure = record { packets = figure.packets + 1; bytes = figure.bytes + bytes }

-- the counter of the slot, if there is one, has counted one packet more
abbrev pub counted_at : ℕ → Option ℕ → List Figure → List Figure
counted_at bytes None counts = counts
counted_at bytes (Some slot) counts = slice_set counts slot (more bytes (slice_index_or counts slot (record { packets = 0; bytes = 0 })))
