use Rattle.p4rt_service.specs.Turns.{piece_served}
use Rattle.p4rt_service.proofs.Asking.{halted}
use Rattle.p4rt_service.proofs.Pieces.{piece_done, piece_begun, flush_is}
use Rattle.p4rt_service.specs.Dialogues.{noting}
use Rattle.p4rt_service.proofs.bytes.serve_piece.Goals as goal

pub returns-in_err-serve_bytes-clause-held : goal.returns-in_err-serve_bytes-clause-held
returns-in_err-serve_bytes-clause-held g c =
    halted (noting g.D.Desk.answers) c.from_residual.result (piece_served c.args.piece.now (record { link = c.args.link.now; sent = c.args.sent.now })) (record { link = c.serve_bytes.new.link; sent = c.serve_bytes.new.sent }) c.from_residual.ensures.0
    (piece_begun (noting g.D.Desk.answers) c.args.piece.now (record { link = c.args.link.now; sent = c.args.sent.now }) c.in_err-serve_bytes.ensures.held)

pub returns-clause-held : goal.returns-clause-held
returns-clause-held g c =
    piece_done (noting g.D.Desk.answers) _ _ c.flush.result c.args.piece.now (record { link = c.args.link.now; sent = c.args.sent.now }) (record { link = c.serve_bytes.new.link; sent = c.serve_bytes.new.sent }) (record { link = c.flush.new.link; sent = c.flush.new.sent }) c.in_ok-serve_bytes.ensures.held
    (flush_is c.flush.result (record { link = c.serve_bytes.new.link; sent = c.serve_bytes.new.sent }) c.flush.new.link c.flush.new.sent c.flush.ensures.link c.flush.ensures.sent)
