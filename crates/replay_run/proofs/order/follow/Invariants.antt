use Rattle.replay_run.proofs.order.follow.Given as goal
use Rattle.replay_run.specs.Opening.{IsAsker, IsTaker}
use Rattle.run_lanes.specs.Gathered.{OfEach}

abbrev pub invariant-loop-who : goal.invariant-loop-who
invariant-loop-who g l = OfEach IsAsker 32 l.callers.items × OfEach IsTaker 16 l.workers.items
