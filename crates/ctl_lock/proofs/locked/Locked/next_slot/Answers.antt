use Rattle.std.proofs.Common.{◌≡◌, ◌≤◌, ℕ, ◌∙◌, ap, subst}
use Rattle.ctl_lock.proofs.locked.Locked.next_slot.Goals as goal
use Rattle.plane_spec.specs.Planes.{ControlState}
use Rattle.plane_spec.proofs.Steady.{slots_are}
use Rattle.pub_snap.specs.Snapshots.{all_of}

pub returns-clause-limit : goal.returns-clause-limit
returns-clause-limit g c =
    let start = g.J.Naming.start in
    let standing = c.self.invariant.2 in
    let all : c.image.result.now.now.slots ≡ start.slots =
    ap (λ (s : ControlState). s.slots) (c.image.ensures.control ∙ standing.control) ∙ slots_are start (all_of c.self.inside.line) in
    subst (λ (n : ℕ). c.next_slot.result ≤ n) all c.next_slot.ensures.limit
