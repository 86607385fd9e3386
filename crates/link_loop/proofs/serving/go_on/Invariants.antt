use Rattle.std.proofs.Common.{◌≡◌, ◌<◌, length}
use Rattle.sw_edge.specs.Told.{Keeps}
use Rattle.link_loop.proofs.StepLaws.{GoingOn}
use Rattle.link_loop.proofs.serving.go_on.Given as goal

abbrev pub invariant-loop : goal.invariant-loop
invariant-loop g l = record {
  of : g.D.Desk.is_of l.desk l.pass;
  room : 0 < length l.buffer;
  going : GoingOn g.D.Desk.answers g.D.Desk.gives
      (record { pass = l.fn.pass; left = g.L.Link.left l.fn.link; quiets = g.L.Link.quiets l.fn.link; put = g.P.Ports.sent l.fn.ports; faults = g.P.Ports.faults l.fn.ports; moment = g.K.Clock.last l.fn.clock })
      (record { pass = l.pass; left = g.L.Link.left l.link; quiets = g.L.Link.quiets l.link; put = g.P.Ports.sent l.ports; faults = g.P.Ports.faults l.ports; moment = g.K.Clock.last l.clock })
      (g.L.Link.sent l.fn.link) (g.L.Link.sent l.link) l.fn.service l.service l.more l.watch;
  keeps_ports : Keeps (g.P.Ports.left l.fn.ports) (g.P.Ports.left l.ports);
  ports_quiet : g.P.Ports.quiets l.ports ≡ g.P.Ports.quiets l.fn.ports;
  ports_end : g.P.Ports.ends l.ports ≡ g.P.Ports.ends l.fn.ports;
  faults : g.L.Link.faults l.link ≡ g.L.Link.faults l.fn.link;
  ends : g.L.Link.ends l.link ≡ g.L.Link.ends l.fn.link;
}
