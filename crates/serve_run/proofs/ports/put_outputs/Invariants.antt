use Rattle.std.proofs.Common.{◌≡◌}
use Rattle.serve_run.proofs.Outputs.{put_before}
use Rattle.sw_edge.specs.Told.{Appends, Keeps}
use Rattle.serve_run.proofs.ports.put_outputs.Given as goal

abbrev pub invariant-loop-place : goal.invariant-loop-place
invariant-loop-place g l = record {
  put : Appends (g.P.Ports.sent l.fn.ports) (g.P.Ports.sent l.ports) (put_before l.place l.verdict);
  left : Keeps (g.P.Ports.left l.fn.ports) (g.P.Ports.left l.ports);
  faults : g.P.Ports.faults l.ports ≡ g.P.Ports.faults l.fn.ports;
  quiets : g.P.Ports.quiets l.ports ≡ g.P.Ports.quiets l.fn.ports;
  ends : g.P.Ports.ends l.ports ≡ g.P.Ports.ends l.fn.ports;
}
