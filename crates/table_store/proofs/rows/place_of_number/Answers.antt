use Rattle.std.proofs.Common.{rules}
use Rattle.std.proofs.lemmas.List.Sorted.{answers_always}
use Rattle.table_store.proofs.Numbers.{number_at, number_nowhere}
use Rattle.table_store.proofs.rows.place_of_number.Goals as goal

pub returns-in-Ok : goal.returns-in-Ok
returns-in-Ok c =
    number_at c.args.entries.now c.args.seq c.in-Ok.place c.requires c.in-Ok.ensures.bound
    (c.in-Ok.ensures.position (λ entry. entry.seq) (answers_always _ _ _ (λ f a r g called. search rules)))

pub returns-in-Err : goal.returns-in-Err
returns-in-Err c =
    number_nowhere c.args.entries.now c.args.seq _ c.requires c.in-Err.ensures.bound
    (c.in-Err.ensures.position (λ entry. entry.seq) (answers_always _ _ _ (λ f a r g called. search rules)))
