use Rattle.std.proofs.Common.{Ok, Some, sym, ◌∙◌}
use Rattle.plane_image.proofs.Outcomes.{err_outcome, ok_outcome}
use Rattle.plane_image.proofs.Scoping.{scope_kept}
use Rattle.plane_image.proofs.image.Image.update.Goals as goal

pub returns-in-Err-clause-outcome : goal.returns-in-Err-clause-outcome
returns-in-Err-clause-outcome c = sym (err_outcome _ _ _ _ (sym c.in_ok-change.ensures ∙ c.in-Err.is))

pub returns-in-Ok-change-clause-outcome : goal.returns-in-Ok-change-clause-outcome
returns-in-Ok-change-clause-outcome c = sym (ok_outcome _ _ _ _ _ (sym c.in_ok-change.ensures ∙ c.in-Ok.is) c.in-Ok-change.ensures.refused)

pub returns-in-Err-For-clause-outcome : goal.returns-in-Err-For-clause-outcome
returns-in-Err-For-clause-outcome c = sym (ok_outcome c.args.self.now.now c.args.scope.now.role c.args.update.now c.in-Ok.change (Some c.in-Err-For.cause) (sym c.in_ok-change.ensures ∙ c.in-Ok.is) (rw c.in-Err-For.field-0-is at c.in-Err-For.ensures.refused))

pub returns-in-Ok-change-clause-scope : goal.returns-in-Ok-change-clause-scope
returns-in-Ok-change-clause-scope c = scope_kept c.args.self.now.now c.change.new.self.now (Ok c.in-Ok.change) c.args.scope.now.role c.args.scope.now.ids c.in-Ok-change.ensures.ok c.requires
