use Rattle.std.proofs.Common.{rules, sym, ◌∙◌}
use Rattle.role_arbiter.proofs.ByPlaces.{judged}
use Rattle.role_arbiter.proofs.arbiter.Roles.check.Goals as goal

pub returns-clause-accepted : goal.returns-clause-accepted
returns-clause-accepted c =
    judged _ _ c.place_of-place.result c.place_of_role-known.result c.args.caller c.args.update _ c.self.invariant.0 c.self.view_is (search rules) (search rules) (sym c.judge.ensures ∙ c.in_default.is)

pub returns-in-Some-clause-refused : goal.returns-in-Some-clause-refused
returns-in-Some-clause-refused c =
    judged _ _ c.place_of-place.result c.place_of_role-known.result c.args.caller c.args.update _ c.self.invariant.0 c.self.view_is (search rules) (search rules) (sym c.judge.ensures ∙ c.in-Some.is)
