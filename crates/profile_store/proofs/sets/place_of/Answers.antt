use Rattle.std.proofs.Common.{rules}
use Rattle.std.specs.Prelude.{nat_lt}
use Rattle.std.specs.Ordering.{nat_cmp}
use Rattle.std.proofs.lemmas.List.Sorted.{answers_always}
use Rattle.profile_store.specs.Order.{set_key}
use Rattle.profile_store.proofs.Keys.{same_number, numbers}
use Rattle.profile_store.proofs.Places.{searched}
use Rattle.profile_store.proofs.sets.place_of.Goals as goal

pub returns-clause-found : goal.returns-clause-found
returns-clause-found c =
    let facts = c.binary_search_by_key.ensures in
    (searched nat_cmp nat_lt same_number numbers set_key _ c.requires c.args.profile _ facts.bound (facts.position set_key (answers_always _ _ _ (λ f a r g called. search rules)))).found

pub returns-clause-absent : goal.returns-clause-absent
returns-clause-absent c =
    let facts = c.binary_search_by_key.ensures in
    (searched nat_cmp nat_lt same_number numbers set_key _ c.requires c.args.profile _ facts.bound (facts.position set_key (answers_always _ _ _ (λ f a r g called. search rules)))).absent
