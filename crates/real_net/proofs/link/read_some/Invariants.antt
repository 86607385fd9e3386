use Rattle.real_net.specs.Attempts.{CutShort}
use Rattle.real_net.proofs.link.read_some.Given as goal

abbrev pub invariant-loop : goal.invariant-loop
invariant-loop g l = CutShort g.S.Stream.reads l.counter l.initial.stream l.stream
