use Rattle.std.proofs.Common.{◌==◌, ◌∙◌, ap}
use Rattle.std.specs.List.{find}
use Rattle.p4info_model.specs.Valid.{IsValidProfile}
use Rattle.p4info_model.proofs.Kept.{found_valid}
use Rattle.p4info_model.proofs.valid.P4Info.action_profile.Goals as goal

pub returns-clause-valid : goal.returns-clause-valid
returns-clause-valid c = rw (← c.self.view_is) (found_valid (IsValidProfile c.self.inside.info) (λ x. x.preamble.id == c.args.id) c.self.inside.info.action_profiles c.found.result (c.found.ensures ∙ ap (find (λ x. x.preamble.id == c.args.id)) c.as_slice-profiles.ensures) c.self.invariant.valid.profiles)
