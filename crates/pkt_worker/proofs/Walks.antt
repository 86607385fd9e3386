-- A walk, a node at a time.
use Rattle.std.proofs.Common.{◌≡◌, ◌∙◌, ◌<◌, ◌≤◌, ◌+◌, ◌-◌, ℕ, zero, suc, ap, sym, refl, length, Option, Some, None, arith}
use Rattle.bm_pipeline.specs.declared.tables.Node.{Node}
use Rattle.bm_pipeline.specs.Places.{node_count}
use Rattle.bm_pipeline.specs.Validity.{IsValid}
use Rattle.packet_spec.specs.Walking.{Walk, Turn, node_done, walk_from}
use Rattle.pkt_worker.proofs.HitBounds.{walk_grows, walk_few}
use Rattle.plane_spec.specs.Planes.{Plane}

-- without a node a walk has ended
pub walk_ended : (plane : Plane) (more : ℕ) (walk : Walk) → walk_from plane more None walk ≡ walk
walk_ended plane zero walk = refl
walk_ended plane (suc more) walk = refl

-- a node of a walk through at most n of them, behind i
pub walk_on : (plane : Plane) (n i : ℕ) (node : Node) (walk : Walk) → i < n
    → walk_from plane (n - i) (Some node) walk ≡ walk_from plane (n - (i + 1)) (node_done plane node walk).next (node_done plane node walk).walk
walk_on plane n i node walk lt =
    let one : n - i ≡ suc (n - (i + 1)) = omega arith in
    ap (λ m. walk_from plane m (Some node) walk) one

-- there is room for what a node of a walk hits
pub room_for : (plane : Plane) → IsValid plane.config.program → (start : Option Node) (first walk : Walk) (i : ℕ) (node : Node) → i < suc (node_count plane.config.program)
    → walk_from plane (suc (node_count plane.config.program) - i) (Some node) walk ≡ walk_from plane (suc (node_count plane.config.program)) start first
    → length (node_done plane node walk).walk.hits ≤ length first.hits + 8320
room_for plane valid start first walk i node lt so_far =
    let n = suc (node_count plane.config.program) in
    let next : Walk = walk_from plane (n - (i + 1)) (node_done plane node walk).next (node_done plane node walk).walk in
    let same : next ≡ walk_from plane n start first = sym (walk_on plane n i node walk lt) ∙ so_far in
    omega (arith, walk_grows plane (n - (i + 1)) (node_done plane node walk).next (node_done plane node walk).walk, ap (λ (w : Walk). length w.hits) same, walk_few plane valid start first)

-- the walk goes on behind a node
pub goes_on : (plane : Plane) (whole : Walk) (n i : ℕ) (node : Node) (walk after : Walk) (next : Option Node) → i < n → walk_from plane (n - i) (Some node) walk ≡ whole
    → node_done plane node walk ≡ record { walk = after; next = next } → walk_from plane (n - (i + 1)) next after ≡ whole
goes_on plane whole n i node walk after next lt so_far done =
    ap (λ (turn : Turn). walk_from plane (n - (i + 1)) turn.next turn.walk) (sym done) ∙ sym (walk_on plane n i node walk lt) ∙ so_far

-- a walk has no more hits so far than it may have
pub hits_so_far : (plane : Plane) → IsValid plane.config.program → (start next : Option Node) (first walk : Walk) (more : ℕ)
    → walk_from plane more next walk ≡ walk_from plane (suc (node_count plane.config.program)) start first → length walk.hits ≤ length first.hits + 8320
hits_so_far plane valid start next first walk more so_far =
    omega (arith, walk_grows plane more next walk, ap (λ (w : Walk). length w.hits) so_far, walk_few plane valid start first)
