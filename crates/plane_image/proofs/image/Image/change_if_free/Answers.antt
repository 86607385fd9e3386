use Rattle.std.proofs.Common.{sym, ◌∙◌}
use Rattle.plane_image.proofs.Changing.{refused_stays}
use Rattle.plane_image.proofs.image.Image.change_if_free.Goals as goal

pub returns-in-Err-For-clause-ok : goal.returns-in-Err-For-clause-ok
returns-in-Err-For-clause-ok c =
    (rw c.in-Err-For.field-0-is at c.in-Err-For.ensures.stays) ∙ sym (refused_stays c.args.self.now.now c.args.change.now c.in-Err-For.field-0-0 (rw c.in-Err-For.field-0-is at c.in-Err-For.ensures.refused))
