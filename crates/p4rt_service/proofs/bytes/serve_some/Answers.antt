use Rattle.std.proofs.Common.{take}
use Rattle.p4rt_service.specs.Dialogues.{noting}
use Rattle.p4rt_service.proofs.Pieces.{taken_some, some_held, some_begun, some_halted}
use Rattle.p4rt_service.proofs.bytes.serve_some.Goals as goal

pub returns-in_err-take_events-clause-held : goal.returns-in_err-take_events-clause-held
returns-in_err-take_events-clause-held g c =
    some_halted g.D.Desk.answers _ _ c.from_residual-in_err-take_events.result c.args.piece.now (record { link = c.args.link.now; sent = c.args.sent.now }) (record { link = c.take_events.new.link; sent = c.flush.new.sent }) c.from_residual-in_err-take_events.ensures.0
    (some_begun (noting g.D.Desk.answers) c.args.piece.now c.in_ok-used.used (record { link = c.args.link.now; sent = c.args.sent.now }) c.flush.new.link c.read_some.new.link c.in_ok-used.events
    (taken_some c.args.piece.now c.in_ok-used.used c.requires.some c.in_ok-used.ensures.within) c.flush.ensures.link c.in_ok-used.ensures.quiet c.in_ok-used.ensures.link c.in_ok-used.ensures.given c.in_err-take_events.ensures.held)

pub returns-clause-held : goal.returns-clause-held
returns-clause-held g c =
    some_held (noting g.D.Desk.answers) (take c.in_ok-used.used c.args.piece.now) (record { link = c.args.link.now; sent = c.args.sent.now }) c.flush.new.link c.read_some.new.link c.take_events.new.link c.flush.new.sent c.in_ok-used.events
    (taken_some c.args.piece.now c.in_ok-used.used c.requires.some c.in_ok-used.ensures.within) c.flush.ensures.link c.in_ok-flush.ensures.sent c.in_ok-used.ensures.quiet c.in_ok-used.ensures.link c.in_ok-used.ensures.given c.in_ok-take_events.ensures.held
