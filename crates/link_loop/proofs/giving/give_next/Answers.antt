use Rattle.std.proofs.Common.{arith}
use Rattle.link_loop.proofs.StepLaws.{given_step, never_closed}
use Rattle.link_loop.proofs.giving.give_next.Goals as goal

pub returns-clause-steps : goal.returns-clause-steps
returns-clause-steps g c =
    given_step g.D.Desk.answers g.D.Desk.gives c.hand_on.result c.next-next.new.pass
    (record { pass = c.args.pass.now; left = g.L.Link.left c.args.link.now; quiets = g.L.Link.quiets c.args.link.now; put = g.P.Ports.sent c.args.ports.now; faults = g.P.Ports.faults c.args.ports.now; moment = g.K.Clock.last c.args.clock.now })
    (record { pass = c.hand_on.new.pass; left = g.L.Link.left c.hand_on.new.link; quiets = g.L.Link.quiets c.hand_on.new.link; put = g.P.Ports.sent c.hand_on.new.ports; faults = g.P.Ports.faults c.hand_on.new.ports; moment = g.K.Clock.last c.now-now.new.self })
    (g.L.Link.sent c.args.link.now) (g.L.Link.sent c.hand_on.new.link) c.args.service.now c.hand_on.new.service c.args.more.now c.more_behind.result c.now-now.result c.next-next.result c.args.watch.now c.tell.new.self c.tell.ensures c.next-next.ensures.given c.hand_on.ensures.takes
    c.hand_on.ensures.keeps_left c.hand_on.ensures.quiet c.hand_on.ensures.put (omega (arith, c.now-now.ensures.later, c.now-now.ensures.told)) c.now-now.ensures.told c.requires.asked c.more_behind.ensures

pub returns-clause-end : goal.returns-clause-end
returns-clause-end g c = never_closed c.hand_on.result (g.L.Link.ends c.args.link.now) (g.L.Link.ends c.hand_on.new.link) c.hand_on.ensures.end c.hand_on.ensures.not_closed
