use Rattle.std.proofs.Common.{◌+◌, cond, List, ap, sym, subst, ◌∙◌, arith}
use Rattle.std.specs.Prelude.{◌==◌, nat_lt}
use Rattle.profile_store.specs.declared.rows.SetCount.{SetCount}
use Rattle.profile_store.specs.Order.{AreInOrder, set_key}
use Rattle.profile_store.specs.Rows.{set_count, count_of}
use Rattle.profile_store.proofs.SetEdits.{none_less, actions_at, actions_gap, actions_lowered, order_replaced}
use Rattle.profile_store.proofs.sets.give_back.Goals as goal

pub overflow_sub-actions : goal.overflow_sub-actions
overflow_sub-actions c =
    let none : SetCount = record { profile = 0; actions = 0 } in
    rw c.as_slice-in-Ok.ensures (omega (arith, c.requires.named, actions_at _ _ _ c.requires.order (rw c.as_slice.ensures at c.in-Ok.ensures.found) none))

pub returns-in_ok-replace-clause-actions : goal.returns-in_ok-replace-clause-actions
returns-in_ok-replace-clause-actions c =
    let none : SetCount = record { profile = 0; actions = 0 } in
    λ p. ap (λ (sets : List SetCount). count_of (set_count p sets) + cond (c.args.profile == p) c.args.size 0) (rw c.as_slice-in-Ok.ensures at c.in_ok-replace.ensures.ok)
    ∙ actions_lowered c.args.sets.now.items c.args.profile c.in-Ok.place c.requires.order (rw c.as_slice.ensures at c.in-Ok.ensures.found) none c.args.size c.requires.named p

pub returns-in_ok-replace-clause-order : goal.returns-in_ok-replace-clause-order
returns-in_ok-replace-clause-order c = subst (AreInOrder nat_lt set_key) (sym c.in_ok-replace.ensures.ok)
    (order_replaced c.args.sets.now.items c.args.profile c.in-Ok.place _ c.requires.order (rw c.as_slice.ensures at c.in-Ok.ensures.found))

pub returns-in_default-clause-actions : goal.returns-in_default-clause-actions
returns-in_default-clause-actions c =
    let none = actions_gap _ _ _ (rw c.as_slice.ensures at c.in_default.ensures.absent) in
    λ p. none_less (c.args.profile == p) c.args.size (count_of (set_count p c.args.sets.now.items)) (omega (arith, c.requires.named, none))
