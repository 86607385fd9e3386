use Rattle.std.proofs.Common.{rules, None, refl, ap, ◌∙◌, sym, subst}
use Rattle.p4_types.specs.declared.code.Code.TheVariants as codes
use Rattle.p4v1_read.specs.RoleConfigs.{read_update}
use Rattle.role_arbiter.specs.Arbitration.{asked, cause}
use Rattle.switch_spec.specs.Answer.{Answer}
use Rattle.switch_spec.specs.Notices.{standing_notices}
use Rattle.call_outcomes.specs.declared.prepared.Prepared.{Prepared}
use Rattle.call_outcomes.specs.Prepared.{IsPrepared}
use Rattle.ctl_core.proofs.Arbitrating.{not_refused, told, handed}
use Rattle.ctl_core.proofs.stream.arbitration.Goals as goal

pub returns-clause-prepared : goal.returns-clause-prepared
returns-clause-prepared c =
    let s = c.args.image.now.now in
    let update = c.args.update.now in
    let session = c.in-Ok.new.session in
    let roles_are = c.roles-2.ensures ∙ ap (λ x. x.roles) c.enter-lanes.ensures.now in
    let device_is = c.device-2.ensures ∙ ap (λ x. x.device) c.enter-lanes.ensures.now in
    let lanes_are = c.as_slice.ensures ∙ c.enter-lanes.ensures.told in
    let told_is = c.in_ok-notices.ensures ∙ ap (λ d. standing_notices d c.roles-2.result.now session.role c.as_slice.result.now) device_is in
    let p : Prepared = record { code = codes.Ok; messages = c.new.result; notices = c.in_ok-notices.notices; events = c.in_ok-only.field-0; packet = None } in
    let asks_is = c.arbitration_update.ensures in
    let accepted = ap (λ roles. cause roles c.args.lane (read_update update)) (sym c.roles.ensures) ∙ ap (cause c.roles.result.now c.args.lane) (sym asks_is) ∙ c.in-Ok.ensures.accepted in
    let session_is = c.in-Ok.ensures.session ∙ ap (asked c.args.lane) asks_is in
    subst (λ (a : Answer). IsPrepared a p) (sym (not_refused s c.args.lane c.args.call update (search rules) accepted)) (record {
      code = refl;
      messages = search rules;
      notices = told s (read_update update) c.args.lane session _ _ c.in_ok-notices.notices session_is roles_are lanes_are told_is;
      events = handed c.args.call c.args.lane (read_update update) session c.copied-config.result c.in_ok-only.field-0 session_is c.copied-config.ensures c.in_ok-only.ensures;
      packet = refl;
    })
