use Rattle.std.proofs.Common.{◌≡◌, Some, None, sym, ◌∙◌, option_copied, rules}
use Rattle.std.specs.List.{slice_get}
use Rattle.std.specs.Str.{bytes_eq}
use Rattle.std.proofs.lemmas.Option.{gets}
use Rattle.name_index.specs.Names.{place_of}
use Rattle.name_index.proofs.Firsts.{at_place}
use Rattle.name_index.proofs.lookup.Index.named_at.Goals as goal

pub returns-in_err-place_at : goal.returns-in_err-place_at
returns-in_err-place_at g c =
    let none : option_copied c.from_residual.result ≡ None = search rules in
    let place : None ≡ place_of g.T.Labelled.label c.args.name.now c.args.self.now = search rules in
    none ∙ sym (at_place (λ x. bytes_eq (g.T.Labelled.label x) c.args.name.now) c.args.self.now None place)

pub returns : goal.returns
returns g c =
    let got : option_copied c.get.result ≡ slice_get c.args.self.now c.in_ok-place_at.field-0 = search (rules, gets) in
    let place : Some c.in_ok-place_at.field-0 ≡ place_of g.T.Labelled.label c.args.name.now c.args.self.now = search rules in
    got ∙ at_place (λ x. bytes_eq (g.T.Labelled.label x) c.args.name.now) c.args.self.now (Some c.in_ok-place_at.field-0) place
