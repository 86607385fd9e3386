use Rattle.std.proofs.Common.{rules}
use Rattle.std.proofs.lemmas.List.Sorted.{answers_always}
use Rattle.table_store.proofs.Places.{searched}
use Rattle.table_store.proofs.groups.place_of.Goals as goal

pub returns : goal.returns
returns c =
    let facts = c.binary_search_by_key.ensures in
    searched _ c.requires c.args.table _ facts.bound (facts.position (λ group. group.table) (answers_always _ _ _ (λ f a r g called. search rules)))
