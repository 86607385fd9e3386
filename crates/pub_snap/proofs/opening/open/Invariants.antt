use Rattle.std.proofs.Common.{◌≡◌, ◌≤◌, ◌+◌, [], drop, replicate, Some, vec_len, vec_capacity}
use Rattle.left_right.specs.Sides.{view}
use Rattle.pub_snap.specs.Snapshots.{IsAfter}
use Rattle.pub_snap.proofs.opening.open.Given as goal

abbrev pub invariant-loop : goal.invariant-loop
invariant-loop g l =
    (l.viewers.items ≡ replicate l.counter (record { told = l.told; refusals = 0 }))
    × (vec_len l.viewers ≡ l.counter)
    × (l.places ≤ vec_capacity l.viewers)
    × (view l.writer.desk.place ≡ Some l.told)
    × (l.writer.desk.shown.value ≡ l.initial.writer.desk.shown.value)
    × (drop l.writer.behind l.writer.log.items ≡ [])
