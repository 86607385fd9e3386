use Rattle.real_net.specs.Attempts.{CutShort}
use Rattle.real_net.proofs.net.accept_some.Given as goal

abbrev pub invariant-loop : goal.invariant-loop
invariant-loop g l = CutShort g.L.Listener.accepts l.counter l.initial.listener l.listener
