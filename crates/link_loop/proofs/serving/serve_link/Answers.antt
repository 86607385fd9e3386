use Rattle.link_loop.proofs.StepLaws.{served_to_end}
use Rattle.link_loop.proofs.serving.serve_link.Goals as goal

pub returns-clause-served : goal.returns-clause-served
returns-clause-served g c =
    served_to_end g.D.Desk.answers g.D.Desk.gives (g.D.Desk.lane_of c.args.pass.now) c.greet_and_go_on-end.result
    (record { pass = c.args.pass.now; left = g.L.Link.left c.args.link.now; quiets = g.L.Link.quiets c.args.link.now; put = g.P.Ports.sent c.args.ports.now; faults = g.P.Ports.faults c.args.ports.now; moment = g.K.Clock.last c.args.clock.now })
    (record { pass = c.greet_and_go_on-end.new.pass; left = g.L.Link.left c.greet_and_go_on-end.new.link; quiets = g.L.Link.quiets c.greet_and_go_on-end.new.link; put = g.P.Ports.sent c.greet_and_go_on-end.new.ports; faults = g.P.Ports.faults c.greet_and_go_on-end.new.ports; moment = g.K.Clock.last c.greet_and_go_on-end.new.clock })
    (g.L.Link.sent c.args.link.now) (g.L.Link.sent c.greet_and_go_on-end.new.link) c.in-Ok.opened.1 c.greet_and_go_on-end.new.service c.leave.new.pass c.greet_and_go_on-end.ensures.lasts c.in-Ok.ensures.service c.leave.ensures.leaves
