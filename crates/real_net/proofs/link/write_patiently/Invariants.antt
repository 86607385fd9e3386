use Rattle.real_net.specs.Links.{Waited}
use Rattle.real_net.specs.declared.attempts.TheConstants.{TRIES}
use Rattle.real_net.proofs.link.write_patiently.Given as goal

abbrev pub invariant-loop : goal.invariant-loop
invariant-loop g l = Waited (g.S.Stream.writes l.bytes) TRIES l.counter l.initial.stream l.stream
