use Rattle.std.proofs.Common.{◌≡◌, true, false, Some, None, rules}
use Rattle.std.specs.List.{slice_get}
use Rattle.std.specs.Str.{bytes_eq}
use Rattle.std.proofs.lemmas.Option.{gets}
use Rattle.name_index.specs.Places.{name_at}
use Rattle.name_index.proofs.Ordered.{place_inside, found, absent_other, absent_past}
use Rattle.name_index.proofs.lookup.place_in.Goals as goal

pub returns-in-Some-clause-place : goal.returns-in-Some-clause-place
returns-in-Some-clause-place g c =
    let label = g.T.Labelled.label in
    let there : slice_get c.args.places.now c.start_of.result ≡ Some c.in-Some.place.now = search (rules, gets) in
    let same : bytes_eq (name_at label c.args.objects.now c.in-Some.place.now) c.args.name.now ≡ true = search rules in
    found label c.args.objects.now c.args.places.now c.requires c.args.name.now _ _ c.start_of.ensures there same

pub returns-in-Some-clause-inside : goal.returns-in-Some-clause-inside
returns-in-Some-clause-inside g c =
    let there : slice_get c.args.places.now c.start_of.result ≡ Some c.in-Some.place.now = search (rules, gets) in
    place_inside g.T.Labelled.label c.args.objects.now c.args.places.now c.requires c.args.name.now _ _ there

pub returns-in_default-clause-place : goal.returns-in_default-clause-place
returns-in_default-clause-place g c =
    let label = g.T.Labelled.label in
    let there : slice_get c.args.places.now c.start_of.result ≡ Some c.in-Some.place.now = search (rules, gets) in
    let apart : bytes_eq (name_at label c.args.objects.now c.in-Some.place.now) c.args.name.now ≡ false = search rules in
    absent_other label c.args.objects.now c.args.places.now c.requires c.args.name.now _ _ c.start_of.ensures there apart

pub returns-in_default-2-clause-place : goal.returns-in_default-2-clause-place
returns-in_default-2-clause-place g c =
    let beyond : slice_get c.args.places.now c.start_of.result ≡ None = search (rules, gets) in
    absent_past g.T.Labelled.label c.args.objects.now c.args.places.now c.requires c.args.name.now _ c.start_of.ensures beyond
