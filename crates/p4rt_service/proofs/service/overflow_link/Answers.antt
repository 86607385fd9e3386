use Rattle.p4rt_service.specs.Dialogues.{noting}
use Rattle.p4rt_service.specs.Turns.{overflowed}
use Rattle.p4rt_service.proofs.Services.{overflown, overflown_short, held_begun}
use Rattle.p4rt_service.proofs.service.overflow_link.Goals as goal

pub returns-in_err-close_for_room-clause-held : goal.returns-in_err-close_for_room-clause-held
returns-in_err-close_for_room-clause-held g c =
    overflown_short g.D.Desk.answers _ _ _ _ c.from_residual.result c.args.link.now _ c.from_residual.ensures.0 c.in_err-close_for_room.ensures.held

pub returns-in_err-flush-clause-held : goal.returns-in_err-flush-clause-held
returns-in_err-flush-clause-held g c =
    overflown_short g.D.Desk.answers _ _ _ _ c.from_residual-in_err-flush.result c.args.link.now _ c.from_residual-in_err-flush.ensures.0
    (held_begun (noting g.D.Desk.answers) _ _ (overflowed c.args.link.now) c.close_for_room.new.link c.in_ok-close_for_room.ensures.held)

pub returns-clause-held : goal.returns-clause-held
returns-clause-held g c =
    overflown g.D.Desk.answers _ _ _ _ c.args.link.now c.close_for_room.new.link c.flush.new.link c.flush.new.sent c.new-sent.result c.new-sent.ensures c.in_ok-close_for_room.ensures.held c.flush.ensures.link c.in_ok-flush.ensures.sent
