use Rattle.p4rt_service.specs.Serving.{is_open, left_where, replied, asked}
use Rattle.p4rt_service.proofs.Asking.{answered_to, halted}
use Rattle.p4rt_service.proofs.Holding.{asked_begun}
use Rattle.p4rt_service.specs.Dialogues.{noting}
use Rattle.p4rt_service.proofs.answering.ask.Goals as goal

pub returns-in_err-send_reply-clause-held : goal.returns-in_err-send_reply-clause-held
returns-in_err-send_reply-clause-held g c =
    halted (noting g.D.Desk.answers) c.from_residual.result (asked c.args.stream c.args.call.now c.args.link.now) c.send_reply.new.link c.from_residual.ensures.0
    (asked_begun (noting g.D.Desk.answers) _ _ c.args.call.now c.ask_noting-reply.result (λ r. left_where (is_open c.args.link.now) (replied c.args.stream r c.args.link.now)) c.ask_noting-reply.ensures.answered)

pub returns-clause-held : goal.returns-clause-held
returns-clause-held g c = answered_to (noting g.D.Desk.answers) c.args.call.now c.ask_noting-reply.result c.args.stream c.is_open-was_open.result c.args.link.now c.send_reply.new.link c.is_open-was_open.ensures c.ask_noting-reply.ensures.answered c.in_ok-send_reply.ensures c.leave_where.ensures.held
