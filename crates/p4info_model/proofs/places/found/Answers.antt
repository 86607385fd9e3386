use Rattle.std.proofs.Common.{◌≡◌, ◌==◌, ℕ, Bool, List, Option, Some, None, sym, ◌∙◌, subst, rules}
use Rattle.std.specs.List.{find, position, slice_get}
use Rattle.std.specs.Option.{MatchOption, option_copied}
use Rattle.std.proofs.lemmas.Option.{gets}
use Rattle.p4info_model.proofs.Positions.{find_place}
use Rattle.p4info_model.proofs.places.found.Goals as goal

at_place : {X : Type 0} (p : X → Bool) (xs : List X) (r : Option ℕ) → r ≡ position p xs → MatchOption r (find p xs ≡ None) (λ i. slice_get xs i ≡ find p xs)
at_place p xs r e = subst (λ q. MatchOption q (find p xs ≡ None) (λ i. slice_get xs i ≡ find p xs)) (sym e) (find_place p xs)

pub returns-in-Some : goal.returns-in-Some
returns-in-Some g c =
    let got : option_copied c.get-in-Some.result ≡ slice_get c.args.objects.now c.in-Some.place.now = search (rules, gets) in
    got ∙ at_place (λ x. g.T.Identified.identity x == c.args.id) c.args.objects.now (Some c.in-Some.place.now) (c.in-Some.ensures.value ∙ c.requires c.args.id)

pub returns-in-None : goal.returns-in-None
returns-in-None g c = sym (at_place (λ x. g.T.Identified.identity x == c.args.id) c.args.objects.now None (c.in-None.ensures.value ∙ c.requires c.args.id))
