use Rattle.std.proofs.Common.{List, ap, ◌∙◌}
use Rattle.profile_store.specs.declared.rows.SetCount.{SetCount}
use Rattle.profile_store.specs.Rows.{set_count, count_of}
use Rattle.profile_store.proofs.SetEdits.{on_ok, order_by, actions_raised, actions_inserted, order_replaced, order_inserted}
use Rattle.profile_store.proofs.sets.take.Goals as goal

pub returns-in_ok-actions-in-Ok-clause-actions : goal.returns-in_ok-actions-in-Ok-clause-actions
returns-in_ok-actions-in-Ok-clause-actions c =
    let none : SetCount = record { profile = 0; actions = 0 } in
    on_ok c.replace.result _ _ c.replace.ensures.ok
    (λ is p. ap (λ (sets : List SetCount). count_of (set_count p sets)) is
    ∙ actions_raised c.args.sets.now.items c.args.profile c.in-Ok.place c.requires (rw c.as_slice.ensures at c.in-Ok.ensures.found) none c.in_ok-actions-in-Ok.actions c.args.size (rw c.as_slice-in-Ok.ensures at c.in_ok-actions-in-Ok.ensures.sum) p)

pub returns-in_ok-actions-in-Ok-clause-order : goal.returns-in_ok-actions-in-Ok-clause-order
returns-in_ok-actions-in-Ok-clause-order c =
    order_by c.replace.result _ _ _ c.requires
    (order_replaced c.args.sets.now.items c.args.profile c.in-Ok.place c.in_ok-actions-in-Ok.actions c.requires (rw c.as_slice.ensures at c.in-Ok.ensures.found)) c.replace.ensures.ok c.replace.ensures.err

pub returns-in-Err-clause-actions : goal.returns-in-Err-clause-actions
returns-in-Err-clause-actions c =
    on_ok c.insert.result _ _ c.insert.ensures.ok
    (λ is p. ap (λ (sets : List SetCount). count_of (set_count p sets)) is
    ∙ actions_inserted c.args.sets.now.items c.args.profile c.in-Err.place (rw c.as_slice.ensures at c.in-Err.ensures.absent) c.args.size p)

pub returns-in-Err-clause-order : goal.returns-in-Err-clause-order
returns-in-Err-clause-order c =
    order_by c.insert.result _ _ _ c.requires
    (order_inserted c.args.sets.now.items c.args.profile c.in-Err.place c.args.size c.requires (rw c.as_slice.ensures at c.in-Err.ensures.absent)) c.insert.ensures.ok c.insert.ensures.err
