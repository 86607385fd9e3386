use Rattle.std.proofs.Common.{◌≡◌, ℕ, map, IfOk, Option, ap, ◌∙◌, subst}
use Rattle.plane_spec.specs.Planes.{with_roles}
use Rattle.switch_spec.specs.Meaning.{receiver, to_lane}
use Rattle.lockstep_run.proofs.session.to_controller.Goals as goal

pub returns : goal.returns
returns c =
    let P : Option ℕ → Type 0 = λ lane. IfOk c.addressed.result (λ messages. messages ≡ map (to_lane lane) c.args.packets) in
    let lane_is : c.primary.result ≡ receiver c.args.image.now.now = c.primary.ensures ∙ ap (λ roles. receiver (with_roles c.args.image.now.now roles)) c.roles.ensures in
    subst P lane_is c.addressed.ensures
