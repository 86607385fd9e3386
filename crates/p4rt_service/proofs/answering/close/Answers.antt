use Rattle.p4rt_service.proofs.Asking.{closed}
use Rattle.p4rt_service.specs.Dialogues.{noting}
use Rattle.p4rt_service.proofs.answering.close.Goals as goal

pub returns-clause-held : goal.returns-clause-held
returns-clause-held g c = closed (noting g.D.Desk.answers) _ _ c.spell_end.result c.args.stream c.ask_noting-reply.result c.args.link.now c.spell_end.new.link c.ask_noting-reply.ensures.answered c.spell_end.ensures
