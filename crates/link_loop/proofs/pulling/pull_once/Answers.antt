use Rattle.std.proofs.Common.{take, ◌∙◌}
use Rattle.link_loop.proofs.StepLaws.{pull_served, never_closed}
use Rattle.link_loop.proofs.pulling.pull_once.Goals as goal

pub returns-in-Bytes-clause-steps : goal.returns-in-Bytes-clause-steps
returns-in-Bytes-clause-steps g c =
    pull_served g.D.Desk.answers c.serve_piece.result c.args.pass.now c.serve_piece.new.pass (g.L.Link.left c.args.link.now) (g.L.Link.left c.pull.new.self) (g.L.Link.left c.serve_piece.new.link)
    (g.L.Link.quiets c.args.link.now) (g.L.Link.quiets c.pull.new.self) (g.L.Link.quiets c.serve_piece.new.link) (g.L.Link.sent c.args.link.now) (g.L.Link.sent c.pull.new.self) (g.L.Link.sent c.serve_piece.new.link)
    c.args.service.now c.serve_piece.new.service (take c.in-Bytes.count c.pull.new.buf) c.args.watch.now c.see.new.self c.see.ensures c.in-Bytes.ensures.pulls c.serve_piece.ensures.keeps_left (c.in-Bytes.ensures.not_quiet (λ e. absurd cc)) c.serve_piece.ensures.quiet
    c.pull.ensures.keeps_sent c.serve_piece.ensures.takes

pub returns-in-Bytes-clause-end : goal.returns-in-Bytes-clause-end
returns-in-Bytes-clause-end g c =
    never_closed c.serve_piece.result (g.L.Link.ends c.args.link.now) (g.L.Link.ends c.serve_piece.new.link) (c.serve_piece.ensures.end ∙ c.in-Bytes.ensures.no_end (λ e. absurd cc)) c.serve_piece.ensures.not_closed
