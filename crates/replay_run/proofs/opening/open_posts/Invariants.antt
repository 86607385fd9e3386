use Rattle.std.proofs.Common.{◌≡◌, ◌++◌, ◌≤◌, length, vec_len, vec_capacity}
use Rattle.std.specs.List.{AllByRecursion}
use Rattle.std.specs.Vec.Iter.{into_iter_items}
use Rattle.counter_bank.specs.Account.{first_seat}
use Rattle.replay_run.proofs.opening.open_posts.Given as goal
use Rattle.replay_run.specs.Opening.{IsPost, SeesRun, without_parts}

abbrev pub invariant-loop-viewer : goal.invariant-loop-viewer
invariant-loop-viewer g l =
    AllByRecursion (IsPost g.J.Naming.list g.J.Naming.start g.J.Naming.bank) l.posts.items
    × (vec_len l.posts ≡ length l.yielded)
    × (length l.fn.viewers.items ≤ vec_capacity l.posts)
    × (l.rest ≡ without_parts (length l.yielded) (first_seat g.J.Naming.bank))
    × (l.yielded ++ into_iter_items l.viewer-iterator ≡ l.fn.viewers.items)
    × AllByRecursion (SeesRun g.J.Naming.list g.J.Naming.start) (into_iter_items l.viewer-iterator)
