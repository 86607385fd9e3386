use Rattle.real_net.specs.Attempts.{CutShort}
use Rattle.real_net.proofs.link.write_some.Given as goal

abbrev pub invariant-loop : goal.invariant-loop
invariant-loop g l = CutShort (g.S.Stream.writes l.bytes) l.counter l.initial.stream l.stream
