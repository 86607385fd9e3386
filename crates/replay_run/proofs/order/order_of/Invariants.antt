use Rattle.std.proofs.Common.{◌≡◌, map, take}
use Rattle.replay_run.proofs.order.order_of.Given as goal
use Rattle.replay_run.specs.Opening.{who_of}

abbrev pub invariant-loop-record : goal.invariant-loop-record
invariant-loop-record l = l.order.items ≡ map who_of (take l.record-index l.tape)
