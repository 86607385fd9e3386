use Rattle.std.proofs.Common.{rules, tests}
use Rattle.std.specs.Ordering.{is_lt}
use Rattle.std.proofs.lemmas.List.Sorted.{answers_always, ranks_by}
use Rattle.bm_rules.proofs.Neighbours.{by_name, by_name-total, names_by_neighbours}
use Rattle.bm_rules.proofs.names.named_twice.Goals as goal

pub returns : goal.returns
returns g c =
    let label = g.T.Labelled.label in
    names_by_neighbours label c.args.objects.now _ c.is_sorted_by.result c.sort_unstable_by.ensures.permutation
    (c.sort_unstable_by.ensures.sorted (λ x y. is_lt (by_name label x y)) (ranks_by (by_name-total label) (λ x. x)) (answers_always _ _ _ (λ f a r f' k. search (rules, tests))))
    (c.is_sorted_by.ensures.cases (λ x y. is_lt (by_name label x y)) (answers_always _ _ _ (λ f a r f' k. search (rules, tests))))
