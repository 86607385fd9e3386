use Rattle.std.proofs.Common.{◌∙◌, ap, ◌&&◌, not, eqb, ltb, ℕ}
use Rattle.std.specs.Option.{option_copied}
use Rattle.plane_spec.specs.Profiles.{weight_of}
use Rattle.plane_state.proofs.Refusing.{over}
use Rattle.plane_state.proofs.causes.is_group_overweight.Goals as goal

pub returns : goal.returns
returns c = c.is_over.ensures ∙ ap (λ (w : ℕ). not (eqb c.weight_limit.result 0) && ltb c.weight_limit.result w) c.total.ensures ∙ over (option_copied c.args.profile) _ (weight_of c.args.shares.now) c.weight_limit.type_inv c.weight_limit.ensures
