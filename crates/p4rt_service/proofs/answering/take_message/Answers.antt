use Rattle.std.proofs.Common.{refl}
use Rattle.p4rt_service.proofs.Asking.{late, called}
use Rattle.p4rt_service.specs.Dialogues.{noting}
use Rattle.p4rt_service.proofs.answering.take_message.Goals as goal

pub returns-then-is_late-clause-held : goal.returns-then-is_late-clause-held
returns-then-is_late-clause-held g c = late (noting g.D.Desk.answers) c.args.stream c.args.method c.args.bytes.now c.args.link.now c.is_late.result c.is_late.ensures c.if-is_late.true refl

pub returns-clause-held : goal.returns-clause-held
returns-clause-held g c = called (noting g.D.Desk.answers) _ _ c.ask.result c.args.stream c.args.method c.args.bytes.now c.in_ok-call.call c.args.link.now c.ask.new.link c.is_late.result c.is_late.ensures c.if-is_late.false c.in_ok-call.ensures c.ask.ensures.held
