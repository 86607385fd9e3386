use Rattle.std.proofs.Common.{◌≤◌, length}
use Rattle.real_net.specs.Links.{Took}
use Rattle.real_net.specs.declared.attempts.TheConstants.{TRIES, WAITS}
use Rattle.real_net.proofs.link.write_all.Given as goal

abbrev pub invariant-loop : goal.invariant-loop
invariant-loop g l = record {
  within : l.done ≤ length l.bytes;
  rises : l.counter ≤ l.done;
  took : Took g.S.Stream.writes TRIES WAITS l.bytes l.counter l.done l.initial.stream l.stream;
}
