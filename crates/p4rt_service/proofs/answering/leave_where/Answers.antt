use Rattle.p4rt_service.proofs.Asking.{left}
use Rattle.p4rt_service.specs.Dialogues.{noting}
use Rattle.p4rt_service.proofs.answering.leave_where.Goals as goal

pub returns-then-has_left-clause-held : goal.returns-then-has_left-clause-held
returns-then-has_left-clause-held g c = left (noting g.D.Desk.answers) c.args.was_open c.has_left.result c.args.link.now c.ask_noting-reply.result c.has_left.ensures c.if-has_left.true c.ask_noting-reply.ensures.answered
