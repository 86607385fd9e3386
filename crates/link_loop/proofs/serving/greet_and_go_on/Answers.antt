use Rattle.std.proofs.Common.{refl}
use Rattle.link_loop.proofs.StepLaws.{greeting_last, greeting_on, last_closed}
use Rattle.link_loop.proofs.serving.greet_and_go_on.Goals as goal

pub returns-in-Some-clause-lasts : goal.returns-in-Some-clause-lasts
returns-in-Some-clause-lasts g c =
    greeting_last g.D.Desk.answers g.D.Desk.gives c.in-Some.end
    (record { pass = c.args.pass.now; left = g.L.Link.left c.args.link.now; quiets = g.L.Link.quiets c.args.link.now; put = g.P.Ports.sent c.args.ports.now; faults = g.P.Ports.faults c.args.ports.now; moment = g.K.Clock.last c.args.clock.now })
    (record { pass = c.serve_piece.new.pass; left = g.L.Link.left c.serve_piece.new.link; quiets = g.L.Link.quiets c.serve_piece.new.link; put = g.P.Ports.sent c.args.ports.now; faults = g.P.Ports.faults c.args.ports.now; moment = g.K.Clock.last c.args.clock.now })
    (g.L.Link.sent c.args.link.now) (g.L.Link.sent c.serve_piece.new.link) c.args.service.now c.serve_piece.new.service c.in-Some.ensures.takes c.serve_piece.ensures.keeps_left c.serve_piece.ensures.quiet refl refl refl

pub returns-in-Some-clause-end : goal.returns-in-Some-clause-end
returns-in-Some-clause-end g c = last_closed c.in-Some.end (g.L.Link.ends c.args.link.now) (g.L.Link.ends c.serve_piece.new.link) c.serve_piece.ensures.end c.in-Some.ensures.not_closed

pub returns-in-None-clause-lasts : goal.returns-in-None-clause-lasts
returns-in-None-clause-lasts g c =
    greeting_on g.D.Desk.answers g.D.Desk.gives c.go_on.result
    (record { pass = c.args.pass.now; left = g.L.Link.left c.args.link.now; quiets = g.L.Link.quiets c.args.link.now; put = g.P.Ports.sent c.args.ports.now; faults = g.P.Ports.faults c.args.ports.now; moment = g.K.Clock.last c.args.clock.now })
    (record { pass = c.serve_piece.new.pass; left = g.L.Link.left c.serve_piece.new.link; quiets = g.L.Link.quiets c.serve_piece.new.link; put = g.P.Ports.sent c.args.ports.now; faults = g.P.Ports.faults c.args.ports.now; moment = g.K.Clock.last c.args.clock.now })
    (record { pass = c.go_on.new.pass; left = g.L.Link.left c.go_on.new.link; quiets = g.L.Link.quiets c.go_on.new.link; put = g.P.Ports.sent c.go_on.new.ports; faults = g.P.Ports.faults c.go_on.new.ports; moment = g.K.Clock.last c.go_on.new.clock })
    (g.L.Link.sent c.args.link.now) (g.L.Link.sent c.serve_piece.new.link) (g.L.Link.sent c.go_on.new.link) c.args.service.now c.serve_piece.new.service c.go_on.new.service
    c.in-None.ensures.takes c.serve_piece.ensures.keeps_left c.serve_piece.ensures.quiet refl refl refl c.go_on.ensures.lasts
