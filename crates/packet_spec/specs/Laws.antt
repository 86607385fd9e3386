-- What a reader asks first of a packet in a plane.
use Rattle.std.specs.Prelude.{◌≡◌, ℕ, suc, ◌+◌, ◌<◌, ◌≤◌, List, [], length, All, Contains, Option, Some}
use Rattle.std.specs.List.{AllPairs}
use Rattle.bm_pipeline.specs.declared.tables.Node.{Node}
use Rattle.bm_pipeline.specs.Places.{node_count}
use Rattle.bm_pipeline.specs.Validity.{IsValid}
use Rattle.p4_types.specs.declared.records.DropReason.{DropReason}
use Rattle.p4_types.specs.declared.records.Fate.TheVariants as fates
use Rattle.p4_types.specs.declared.records.HitMark.{HitMark}
use Rattle.p4_types.specs.declared.records.HitMark.TheVariants as marks
use Rattle.p4_types.specs.declared.table.Entry.{Entry}
use Rattle.packet_spec.specs.Meaning.{meaning}
use Rattle.packet_spec.specs.Walking.{Walk, Walks, walk_from}
use Rattle.plane_spec.specs.Config.{cells_in}
use Rattle.plane_spec.specs.Planes.{Plane}

-- A walk through a valid program ends: it goes through some nodes, to what the function gives.
abbrev pub WalkEnds : Type 0
WalkEnds = (plane : Plane) → IsValid plane.config.program → (start : Option Node) (walk : Walk)
    → (path : List Node) × Walks plane start path walk (walk_from plane (suc (node_count plane.config.program)) start walk)

-- It ends in one way alone.
abbrev pub WalkIsOne : Type 0
WalkIsOne = (plane : Plane) → IsValid plane.config.program → (start : Option Node) (walk : Walk) (path : List Node) (end : Walk)
    → Walks plane start path walk end → end ≡ walk_from plane (suc (node_count plane.config.program)) start walk

-- It comes to no node twice, so that a packet hits at most one entry of a table in a walk.
abbrev pub NoNodeTwice : Type 0
NoNodeTwice = (plane : Plane) → IsValid plane.config.program → (start : Option Node) (path : List Node) (walk end : Walk)
    → Walks plane start path walk end → AllPairs (λ one other. one ≡ other → ⊥) path

-- A packet that is dropped sends nothing, to no port and to no controller.
abbrev pub DroppedSendsNothing : Type 0
DroppedSendsNothing = (plane : Option Plane) (cpu port : ℕ) (packet : List ℕ) (reason : DropReason)
    → (meaning plane cpu port packet).fate ≡ fates.Dropped reason
    → ((meaning plane cpu port packet).outputs ≡ []) × ((meaning plane cpu port packet).packet_ins ≡ [])

-- What leaves at a port has at most 10,240 bytes.
abbrev pub LeavesWithinLimit : Type 0
LeavesWithinLimit = (plane : Option Plane) (cpu port : ℕ) (packet : List ℕ) → All (λ output. length output.bytes ≤ 10240) (meaning plane cpu port packet).outputs

-- what is hit is there: an entry of this table, number and slot, or a cell of the plane
abbrev pub IsThere : Plane → HitMark → Type 0
IsThere plane (marks.Entry table seq slot) = (entry : Entry) × Contains plane.entries entry × (entry.name.table ≡ table) × (entry.seq ≡ seq) × (entry.slot ≡ slot)
IsThere plane (marks.Cell slot) = (plane.cells ≤ slot) × (slot < plane.cells + cells_in plane.config)

-- Everything that a packet hits is there.
abbrev pub HitsAreThere : Type 0
HitsAreThere = (plane : Plane) (cpu port : ℕ) (packet : List ℕ) → All (IsThere plane) (meaning (Some plane) cpu port packet).hits
