use Rattle.std.proofs.Common.{◌≡◌, ◌++◌, fold, map}
use Rattle.std.specs.List.{AllByRecursion, flat_map}
use Rattle.counter_bank.specs.Account.{joined}
use Rattle.std.specs.Vec.Iter.{into_iter_items}
use Rattle.replay_run.specs.Ends.{IsSeated}
use Rattle.replay_run.proofs.counting.join_works.Given as goal

abbrev pub invariant-loop-work : goal.invariant-loop-work
invariant-loop-work l =
    (l.seat ≡ fold joined l.initial.seat (map (λ work. work.seat) l.yielded))
    × (l.seat.bank ≡ l.initial.seat.bank)
    × (l.records.items ≡ l.initial.records.items ++ flat_map (λ work. work.records) l.yielded)
    × (l.yielded ++ into_iter_items l.work-iterator ≡ l.fn.works.items)
    × AllByRecursion (IsSeated l.fn.bank.id) (into_iter_items l.work-iterator)
