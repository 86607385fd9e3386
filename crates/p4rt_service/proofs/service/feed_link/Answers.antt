use Rattle.std.proofs.Common.{sym, ap, ◌∙◌}
use Rattle.h2_conn.specs.Bytes.{code_of}
use Rattle.p4rt_service.specs.Dialogues.{noting}
use Rattle.p4rt_service.specs.Turns.{piece_served}
use Rattle.p4rt_service.proofs.Services.{fed, fed_short, held_begun}
use Rattle.p4rt_service.proofs.service.feed_link.Goals as goal

pub returns-in_err-serve_piece-clause-held : goal.returns-in_err-serve_piece-clause-held
returns-in_err-serve_piece-clause-held g c =
    fed_short g.D.Desk.answers _ _ _ _ c.from_residual.result c.args.link.now _ c.new-sent.result c.args.piece.now c.from_residual.ensures.0 c.new-sent.ensures c.in_err-serve_piece.ensures.held

pub returns-in_err-code-clause-held : goal.returns-in_err-code-clause-held
returns-in_err-code-clause-held g c =
    fed_short g.D.Desk.answers _ _ _ _ c.from_residual-in_err-code.result c.args.link.now _ c.new-sent.result c.args.piece.now c.from_residual-in_err-code.ensures.0 c.new-sent.ensures
    (held_begun (noting g.D.Desk.answers) _ _ (piece_served c.args.piece.now (record { link = c.args.link.now; sent = c.new-sent.result })) (record { link = c.serve_piece.new.link; sent = c.serve_piece.new.sent }) c.in_ok-serve_piece.ensures.held)

pub returns-clause-held : goal.returns-clause-held
returns-clause-held g c =
    fed g.D.Desk.answers _ _ _ _ c.args.link.now c.serve_piece.new.link c.breach.new.link c.serve_piece.new.sent c.new-sent.result c.args.piece.now c.new-sent.ensures c.in_ok-serve_piece.ensures.held c.in_ok-code.ensures.link

pub returns-clause-code : goal.returns-clause-code
returns-clause-code g c = c.in_ok-code.ensures.code ∙ ap (λ link. code_of link.conn) (sym c.in_ok-code.ensures.link)
