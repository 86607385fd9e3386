use Rattle.std.proofs.Common.{◌≡◌, ◌≤◌, length, None}
use Rattle.serve_run.specs.Carrying.{Carries}
use Rattle.sw_edge.specs.declared.TheConstants.{MAX_PACKET}
use Rattle.serve_run.proofs.ports.carry_all.Given as goal

abbrev pub invariant-loop : goal.invariant-loop
invariant-loop g l = record {
  room : MAX_PACKET ≤ length l.buffer;
  carried : Carries None (g.P.Ports.left l.fn.ports) (g.P.Ports.left l.ports) (g.P.Ports.sent l.fn.ports) (g.P.Ports.sent l.ports) l.fn.worker l.worker;
  faults : g.P.Ports.faults l.ports ≡ g.P.Ports.faults l.fn.ports;
  ends : g.P.Ports.ends l.ports ≡ g.P.Ports.ends l.fn.ports;
  yeses : g.S.Stop.yeses l.stop ≡ g.S.Stop.yeses l.fn.stop;
}
