use Rattle.p4rt_service.proofs.Asking.{refused}
use Rattle.p4rt_service.specs.Dialogues.{noting}
use Rattle.p4rt_service.proofs.answering.refuse.Goals as goal

pub returns-clause-held : goal.returns-clause-held
returns-clause-held g c = refused (noting g.D.Desk.answers) c.args.stream c.args.refusal c.is_open-was_open.result c.args.link.now c.spell_refusal.new.link c.is_open-was_open.ensures c.in_ok-spell_refusal.ensures c.leave_where.ensures.held
