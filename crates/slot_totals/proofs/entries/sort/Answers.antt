use Rattle.std.proofs.Common.{rules}
use Rattle.std.proofs.lemmas.List.Sorted.{answers_always}
use Rattle.slot_totals.proofs.Sorting.{sorted_is_placed}
use Rattle.slot_totals.proofs.entries.sort.Goals as goal

pub returns : goal.returns
returns c =
    sorted_is_placed _ _ (c.in_ok-sort_by_key.ensures.sorted (λ line. line.seq) (answers_always _ _ _ (λ f a r g h. search rules)))
    (c.sort_by_key.ensures.stable (λ line. line.seq) (answers_always _ _ _ (λ f a r g h. search rules)))
