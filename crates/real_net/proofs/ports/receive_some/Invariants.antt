use Rattle.std.proofs.Common.{◌≡◌, length}
use Rattle.real_net.specs.Attempts.{CutShort}
use Rattle.real_net.proofs.ports.receive_some.Given as goal

abbrev pub invariant-loop : goal.invariant-loop
invariant-loop g l = record {
  room : length l.room ≡ length l.initial.room;
  cut : CutShort (g.D.Datagrams.receives (length l.initial.room)) l.counter l.initial.socket l.socket;
}
