use Rattle.std.proofs.Common.{false, Option, ◌∙◌, sym, subst}
use Rattle.plane_spec.specs.Planes.{Plane}
use Rattle.plane_image.specs.Image.{IsNumbered, control_of}
use Rattle.plane_image.proofs.AtFirst.{opened_numbered}
use Rattle.plane_image.proofs.image.Image.open.Goals as goal

pub invariant_of-result : goal.invariant_of-result
invariant_of-result c =
    let s = c.args.start.now in
    let planes = c.open.ensures in
    let now : Option Plane → Option Plane → Type 0 = λ active staged. IsNumbered (control_of s.device s.cpu s.rows s.slots c.in_ok-roles.roles.now active staged 1 0 false) in
    let before : Option Plane → Option Plane → Type 0 = λ active staged. IsNumbered (control_of s.device s.cpu s.rows s.slots c.in_ok-roles.roles.before active staged 1 0 false) in
    record {
      now = subst (λ (o : Option Plane). now o c.open.result.staged) (sym (planes.active ∙ c.in_ok-active.ensures.now))
          (subst (now _) (sym planes.staged) (opened_numbered s.bridge s.device s.cpu s.rows s.slots c.in_ok-roles.roles.now));
      before = subst (λ (o : Option Plane). before o c.open.result.former_staged) (sym (planes.former_active ∙ c.in_ok-active.ensures.before))
          (subst (before _) (sym planes.former_staged) (opened_numbered s.bridge s.device s.cpu s.rows s.slots c.in_ok-roles.roles.before));
    }
