use Rattle.std.proofs.Common.{◌≡◌, is_lt, rules}
use Rattle.std.proofs.lemmas.Fn.{always_returns_same}
use Rattle.std.proofs.lemmas.List.Sorted.{ranks_by}
use Rattle.name_index.specs.Places.{by_name}
use Rattle.name_index.proofs.Ordered.{by_name-total}
use Rattle.name_index.proofs.lookup.sort_by_name.Goals as goal

pub returns-clause-sorted : goal.returns-clause-sorted
returns-clause-sorted g c =
    c.sort_unstable_by.ensures.sorted (λ x y. is_lt (by_name g.T.Labelled.label c.args.objects.now x y)) (ranks_by (by_name-total g.T.Labelled.label c.args.objects.now) (λ x. x))
    (always_returns_same _ (λ a r. is_lt r ≡ is_lt (by_name g.T.Labelled.label c.args.objects.now a.0.now a.1.0.now)) _ (λ a r f' k. search rules))
