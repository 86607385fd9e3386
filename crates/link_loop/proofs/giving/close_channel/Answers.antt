use Rattle.link_loop.proofs.StepLaws.{overflow_taken}
use Rattle.link_loop.proofs.giving.close_channel.Goals as goal

pub returns-clause-takes : goal.returns-clause-takes
returns-clause-takes g c =
    overflow_taken g.D.Desk.answers c.push_served.result c.overflow-served.result c.args.pass.now c.overflow-served.new.pass (g.L.Link.sent c.args.link.now) (g.L.Link.sent c.push_served.new.link) c.args.service.now c.overflow-served.new.self
    c.overflow-served.ensures.served c.push_served.ensures.pushes
