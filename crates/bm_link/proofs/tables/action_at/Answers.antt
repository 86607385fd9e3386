use Rattle.std.proofs.Common.{◌≡◌, ◌==◌, Some, None, sym, ◌∙◌, option_copied, rules}
use Rattle.std.specs.List.{slice_get}
use Rattle.std.proofs.lemmas.Option.{gets}
use Rattle.name_index.proofs.Firsts.{at_place}
use Rattle.bm_link.proofs.tables.action_at.Goals as goal

pub returns-in-Some : goal.returns-in-Some
returns-in-Some c =
    let got : option_copied c.get-in-Some.result ≡ slice_get c.args.actions.now c.in-Some.place.now = search (rules, gets) in
    got ∙ at_place (λ action. action.id == c.args.id) c.args.actions.now (Some c.in-Some.place.now) (c.in-Some.ensures.value ∙ c.requires c.args.id)

pub returns-in-None : goal.returns-in-None
returns-in-None c = sym (at_place (λ action. action.id == c.args.id) c.args.actions.now None (c.in-None.ensures.value ∙ c.requires c.args.id))
