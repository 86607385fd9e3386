use Rattle.std.proofs.Common.{◌≡◌, ◌++◌, ◌≤◌, length, vec_len, vec_capacity}
use Rattle.std.specs.List.{AllByRecursion}
use Rattle.std.specs.Vec.Iter.{into_iter_items}
use Rattle.counter_bank.specs.Account.{first_seat}
use Rattle.live_desk.proofs.passes.open_workers.Given as goal
use Rattle.live_desk.specs.Opening.{IsFresh, SeesStart, without_parts}

abbrev pub invariant-loop-viewer : goal.invariant-loop-viewer
invariant-loop-viewer g l =
    AllByRecursion (IsFresh g.J.Naming.list g.J.Naming.start g.J.Naming.bank) l.workers.items
    × (vec_len l.workers ≡ length l.yielded)
    × (length l.fn.viewers.items ≤ vec_capacity l.workers)
    × (l.rest ≡ without_parts (length l.yielded) (first_seat g.J.Naming.bank))
    × (l.yielded ++ into_iter_items l.viewer-iterator ≡ l.fn.viewers.items)
    × AllByRecursion (SeesStart g.J.Naming.list g.J.Naming.start) (into_iter_items l.viewer-iterator)
