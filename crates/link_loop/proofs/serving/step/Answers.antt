use Rattle.std.proofs.Common.{refl, arith}
use Rattle.link_loop.proofs.StepLaws.{pulled_step}
use Rattle.link_loop.proofs.serving.step.Goals as goal

pub returns-clause-steps : goal.returns-clause-steps
returns-clause-steps g c =
    pulled_step g.D.Desk.answers g.D.Desk.gives c.pull_once.result
    (record { pass = c.args.pass.now; left = g.L.Link.left c.args.link.now; quiets = g.L.Link.quiets c.args.link.now; put = g.P.Ports.sent c.args.ports.now; faults = g.P.Ports.faults c.args.ports.now; moment = g.K.Clock.last c.args.clock.now })
    (record { pass = c.pull_once.new.pass; left = g.L.Link.left c.pull_once.new.link; quiets = g.L.Link.quiets c.pull_once.new.link; put = g.P.Ports.sent c.args.ports.now; faults = g.P.Ports.faults c.args.ports.now; moment = g.K.Clock.last c.args.clock.now })
    (g.L.Link.sent c.args.link.now) (g.L.Link.sent c.pull_once.new.link) c.args.service.now c.pull_once.new.service c.args.more.now c.args.watch.now c.pull_once.new.watch c.pull_once.ensures.steps refl refl refl (omega arith)
