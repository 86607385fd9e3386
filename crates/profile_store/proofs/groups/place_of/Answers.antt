use Rattle.std.proofs.Common.{rules}
use Rattle.std.proofs.lemmas.List.Sorted.{answers_always}
use Rattle.profile_store.specs.Order.{key_before, group_key}
use Rattle.profile_store.proofs.Keys.{pair_cmp, same_pair, pairs}
use Rattle.profile_store.proofs.Places.{searched}
use Rattle.profile_store.proofs.groups.place_of.Goals as goal

pub returns-clause-found : goal.returns-clause-found
returns-clause-found c =
    let facts = c.binary_search_by_key.ensures in
    (searched pair_cmp key_before same_pair pairs group_key _ c.requires (c.args.profile, c.args.id) _ facts.bound (facts.position group_key (answers_always _ _ _ (λ f a r g called. search rules)))).found

pub returns-clause-absent : goal.returns-clause-absent
returns-clause-absent c =
    let facts = c.binary_search_by_key.ensures in
    (searched pair_cmp key_before same_pair pairs group_key _ c.requires (c.args.profile, c.args.id) _ facts.bound (facts.position group_key (answers_always _ _ _ (λ f a r g called. search rules)))).absent
