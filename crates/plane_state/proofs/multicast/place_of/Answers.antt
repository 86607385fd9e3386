use Rattle.std.proofs.Common.{rules}
use Rattle.std.proofs.lemmas.List.Sorted.{answers_always}
use Rattle.table_store.proofs.Places.{searched_by}
use Rattle.plane_state.proofs.multicast.place_of.Goals as goal

pub returns-clause-found : goal.returns-clause-found
returns-clause-found c =
    let facts = c.binary_search_by_key.ensures in
    (searched_by (λ g. g.id) _ c.requires c.args.id _ facts.bound (facts.position (λ g. g.id) (answers_always _ _ _ (λ f a r g called. search rules)))).found

pub returns-clause-absent : goal.returns-clause-absent
returns-clause-absent c =
    let facts = c.binary_search_by_key.ensures in
    (searched_by (λ g. g.id) _ c.requires c.args.id _ facts.bound (facts.position (λ g. g.id) (answers_always _ _ _ (λ f a r g called. search rules)))).absent
