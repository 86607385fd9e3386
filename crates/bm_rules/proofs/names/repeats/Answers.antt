use Rattle.std.proofs.Common.{rules, tests}
use Rattle.std.specs.Ordering.{is_lt}
use Rattle.std.proofs.lemmas.List.Sorted.{answers_always}
use Rattle.bm_rules.proofs.Neighbours.{by_neighbours}
use Rattle.bm_rules.proofs.names.repeats.Goals as goal

pub returns : goal.returns
returns g c =
    by_neighbours g.met.T.Ord.total c.args.items.now _ c.sort_unstable.ensures.permutation c.sort_unstable.ensures.sorted c.is_sorted_by.result
    (c.is_sorted_by.ensures.cases (λ x y. is_lt (g.T.Ord.cmp x y)) (answers_always _ _ _ (λ f a r f' k. search (rules, tests))))
