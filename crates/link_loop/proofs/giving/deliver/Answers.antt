use Rattle.link_loop.proofs.StepLaws.{message_delivered}
use Rattle.link_loop.proofs.giving.deliver.Goals as goal

pub returns-clause-takes : goal.returns-clause-takes
returns-clause-takes g c =
    message_delivered c.push_served.result c.deliver-served.result (g.L.Link.sent c.args.link.now) (g.L.Link.sent c.push_served.new.link) c.args.service.now c.deliver-served.new.self c.args.message.now
    c.deliver-served.ensures c.push_served.ensures.pushes
