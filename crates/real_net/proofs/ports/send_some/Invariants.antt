use Rattle.real_net.specs.Attempts.{CutShort}
use Rattle.real_net.proofs.ports.send_some.Given as goal

abbrev pub invariant-loop : goal.invariant-loop
invariant-loop g l = CutShort (g.D.Datagrams.sends l.datagram l.port) l.counter l.initial.socket l.socket
