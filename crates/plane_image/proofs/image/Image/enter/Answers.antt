use Rattle.std.proofs.Common.{ap, ◌∙◌}
use Rattle.role_arbiter.specs.Telling.{told_at_arbitration}
use Rattle.plane_image.proofs.image.Image.enter.Goals as goal

pub returns-clause-told : goal.returns-clause-told
returns-clause-told c = c.enter.ensures.told ∙ ap (λ v. told_at_arbitration v.now.roles c.args.new.session) c.self.view_is
