use Rattle.link_loop.proofs.StepLaws.{piece_taken}
use Rattle.link_loop.proofs.pulling.serve_piece.Goals as goal

pub returns-clause-takes : goal.returns-clause-takes
returns-clause-takes g c =
    piece_taken g.D.Desk.answers c.push_piece.result c.feed-served.result c.args.pass.now c.feed-served.new.pass (g.L.Link.sent c.args.link.now) (g.L.Link.sent c.push_piece.new.link) c.args.service.now c.feed-served.new.self c.args.piece.now
    c.feed-served.ensures.served c.feed-served.ensures.code c.push_piece.ensures.pushes
