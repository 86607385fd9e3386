use Rattle.std.proofs.Common.{◌==◌, ◌∙◌, ap}
use Rattle.std.specs.List.{find}
use Rattle.p4info_model.specs.Valid.{IsValidAction}
use Rattle.p4info_model.proofs.Kept.{found_valid}
use Rattle.p4info_model.proofs.valid.P4Info.action.Goals as goal

pub returns-clause-valid : goal.returns-clause-valid
returns-clause-valid c = (found_valid (IsValidAction) (λ x. x.preamble.id == c.args.id) c.self.inside.info.actions c.found.result (c.found.ensures ∙ ap (find (λ x. x.preamble.id == c.args.id)) c.as_slice.ensures) c.self.invariant.valid.actions)
