use Rattle.std.proofs.Common.{◌≡◌, ◌≤◌, ℕ, ◌∙◌, ap, subst}
use Rattle.live_desk.proofs.locked.Locked.next_slot.Goals as goal
use Rattle.p4_types.specs.declared.events.Start.{Start}
use Rattle.plane_spec.specs.Planes.{ControlState}
use Rattle.plane_spec.proofs.Steady.{slots_are}

pub returns-clause-limit : goal.returns-clause-limit
returns-clause-limit g c =
    let told = c.self.inside.line.told in
    let standing = c.self.invariant.4 in
    let all : c.image.result.now.now.slots ≡ g.J.Naming.start.slots =
    ap (λ (s : ControlState). s.slots) (c.image.ensures.control ∙ standing.control) ∙ slots_are told.start told.events ∙ ap (λ (s : Start). s.slots) c.self.invariant.2 in
    subst (λ (n : ℕ). c.next_slot.result ≤ n) all c.next_slot.ensures.limit
