use Rattle.std.proofs.Common.{rules}
use Rattle.std.proofs.lemmas.List.Sorted.{answers_always}
use Rattle.match_index.proofs.Searched.{found_at, found_nowhere}
use Rattle.match_index.proofs.scan.entry_at.Goals as goal

pub returns-in-Ok : goal.returns-in-Ok
returns-in-Ok c =
    found_at c.args.entries.now c.args.seq c.in-Ok.place _ c.requires c.in-Ok.ensures.bound c.index-entries-place.is
    (c.in-Ok.ensures.position (λ entry. entry.seq) (answers_always _ _ _ (λ f a r g called. search rules)))

pub returns-in-Err : goal.returns-in-Err
returns-in-Err c =
    found_nowhere c.args.entries.now c.args.seq _ c.requires
    (c.in-Err.ensures.position (λ entry. entry.seq) (answers_always _ _ _ (λ f a r g called. search rules)))
