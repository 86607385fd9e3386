-- The lines of packets, of lanes of one kind.
use Rattle.std.specs.Prelude.{◌≡◌, ◌<◌, ◌+◌, ℕ, Bool, true, false, List, map, slice_index_or}
use Rattle.std.specs.List.{All, flat_map}
use Rattle.p4_types.specs.declared.records.Record.{Record}
use Rattle.p4_types.specs.declared.tape.Who.{Who}
use Rattle.p4_types.specs.declared.tape.Who.TheVariants as who
use Rattle.run_spec.specs.Text.{count_up}
use Rattle.switch_spec.specs.Carrying.{records_of}
use Rattle.run_spec.specs.ReportText.{packet_line}

-- lane by lane, of so many lanes of a kind from this one on
unfoldable pub lane_lines : (ℕ → Who) → ℕ → ℕ → List Record → List ℕ
lane_lines kind from count records = flat_map (λ lane. flat_map packet_line (records_of lane records)) (map kind (count_up from count))

-- where the mark of a lane stands: the 32 controllers' lanes, then the workers'
abbrev pub mark_place : Who → ℕ
mark_place (who.Controller lane) = lane
mark_place (who.Worker lane) = 32 + lane

-- the packet's lane is marked, if it has a place among the 48
abbrev pub IsMarked : List Bool → Record → Type 0
IsMarked marks packet = mark_place packet.who < 48 → slice_index_or marks (mark_place packet.who) false ≡ true

-- each packet's lane is marked
abbrev pub AreMarked : List Bool → List Record → Type 0
AreMarked marks records = All (IsMarked marks) records
