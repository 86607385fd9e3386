use Rattle.std.proofs.Common.{◌-◌}
use Rattle.h2_streams.specs.Sending.{drained}
use Rattle.h2_streams.proofs.Drains.{AreDrained}
use Rattle.h2_streams.proofs.draining.drain.Given as goal

abbrev pub invariant-loop : goal.invariant-loop
invariant-loop l = AreDrained (drained l.fn.outgoing l.fn.stream) l.outgoing l.stream (l.end - l.counter)
