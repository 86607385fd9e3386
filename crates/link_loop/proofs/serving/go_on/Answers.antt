use Rattle.std.proofs.Common.{refl, ◌∙◌, arith}
use Rattle.sw_edge.proofs.ToldLaws.{Keeps-refl, Keeps-trans}
use Rattle.link_loop.proofs.StepLaws.{going_start, going_more, going_ends, going_given_up}
use Rattle.link_loop.proofs.serving.go_on.Goals as goal

pub loop-init : goal.loop-init
loop-init g c = record {
  of = c.requires.of;
  room = c.requires.room;
  going = going_start g.D.Desk.answers g.D.Desk.gives
      (record { pass = c.args.pass.now; left = g.L.Link.left c.args.link.now; quiets = g.L.Link.quiets c.args.link.now; put = g.P.Ports.sent c.args.ports.now; faults = g.P.Ports.faults c.args.ports.now; moment = g.K.Clock.last c.args.clock.now })
      (g.L.Link.sent c.args.link.now) c.args.service.now 256 c.new-watch.result refl c.new-watch.ensures;
  keeps_ports = Keeps-refl (g.P.Ports.left c.args.ports.now);
  ports_quiet = refl;
  ports_end = refl;
  faults = refl;
  ends = refl;
}

pub loop-preserved : goal.loop-preserved
loop-preserved g c = record {
  of = c.step.ensures.of;
  room = omega arith;
  going = going_more g.D.Desk.answers g.D.Desk.gives
      (record { pass = c.args.pass.now; left = g.L.Link.left c.args.link.now; quiets = g.L.Link.quiets c.args.link.now; put = g.P.Ports.sent c.args.ports.now; faults = g.P.Ports.faults c.args.ports.now; moment = g.K.Clock.last c.args.clock.now })
      (record { pass = c.loop.pass; left = g.L.Link.left c.loop.link; quiets = g.L.Link.quiets c.loop.link; put = g.P.Ports.sent c.loop.ports; faults = g.P.Ports.faults c.loop.ports; moment = g.K.Clock.last c.loop.clock })
      (record { pass = c.step.new.pass; left = g.L.Link.left c.step.new.link; quiets = g.L.Link.quiets c.step.new.link; put = g.P.Ports.sent c.step.new.ports; faults = g.P.Ports.faults c.step.new.ports; moment = g.K.Clock.last c.step.new.clock })
      (g.L.Link.sent c.args.link.now) (g.L.Link.sent c.loop.link) (g.L.Link.sent c.step.new.link) c.args.service.now c.loop.service c.step.new.service c.loop.more c.step.new.more c.loop.watch c.step.new.watch c.loop.invariant.going c.in-None-step.ensures.steps;
  keeps_ports = Keeps-trans (g.P.Ports.left c.args.ports.now) (g.P.Ports.left c.loop.ports) (g.P.Ports.left c.step.new.ports) c.loop.invariant.keeps_ports c.step.ensures.keeps_ports;
  ports_quiet = c.step.ensures.ports_quiet ∙ c.loop.invariant.ports_quiet;
  ports_end = c.step.ensures.ports_end ∙ c.loop.invariant.ports_end;
  faults = c.in-None-step.ensures.no_fault (λ e. absurd cc) ∙ c.loop.invariant.faults;
  ends = c.in-None-step.ensures.no_end (λ e. absurd cc) ∙ c.loop.invariant.ends;
}

pub returns-in-Some-step-clause-lasts : goal.returns-in-Some-step-clause-lasts
returns-in-Some-step-clause-lasts g c =
    going_ends g.D.Desk.answers g.D.Desk.gives c.in-Some-step.end
    (record { pass = c.args.pass.now; left = g.L.Link.left c.args.link.now; quiets = g.L.Link.quiets c.args.link.now; put = g.P.Ports.sent c.args.ports.now; faults = g.P.Ports.faults c.args.ports.now; moment = g.K.Clock.last c.args.clock.now })
    (record { pass = c.loop.pass; left = g.L.Link.left c.loop.link; quiets = g.L.Link.quiets c.loop.link; put = g.P.Ports.sent c.loop.ports; faults = g.P.Ports.faults c.loop.ports; moment = g.K.Clock.last c.loop.clock })
    (record { pass = c.step.new.pass; left = g.L.Link.left c.step.new.link; quiets = g.L.Link.quiets c.step.new.link; put = g.P.Ports.sent c.step.new.ports; faults = g.P.Ports.faults c.step.new.ports; moment = g.K.Clock.last c.step.new.clock })
    (g.L.Link.sent c.args.link.now) (g.L.Link.sent c.loop.link) (g.L.Link.sent c.step.new.link) c.args.service.now c.loop.service c.step.new.service c.loop.more c.step.new.more c.loop.watch c.step.new.watch c.loop.invariant.going c.in-Some-step.ensures.steps

pub returns-then-is_given_up-clause-lasts : goal.returns-then-is_given_up-clause-lasts
returns-then-is_given_up-clause-lasts g c =
    going_given_up g.D.Desk.answers g.D.Desk.gives c.say_goodbye.result
    (record { pass = c.args.pass.now; left = g.L.Link.left c.args.link.now; quiets = g.L.Link.quiets c.args.link.now; put = g.P.Ports.sent c.args.ports.now; faults = g.P.Ports.faults c.args.ports.now; moment = g.K.Clock.last c.args.clock.now })
    (record { pass = c.step.new.pass; left = g.L.Link.left c.step.new.link; quiets = g.L.Link.quiets c.step.new.link; put = g.P.Ports.sent c.step.new.ports; faults = g.P.Ports.faults c.step.new.ports; moment = g.K.Clock.last c.step.new.clock })
    (record { pass = c.step.new.pass; left = g.L.Link.left c.say_goodbye.new.link; quiets = g.L.Link.quiets c.say_goodbye.new.link; put = g.P.Ports.sent c.step.new.ports; faults = g.P.Ports.faults c.step.new.ports; moment = g.K.Clock.last c.step.new.clock })
    (g.L.Link.sent c.args.link.now) (g.L.Link.sent c.step.new.link) (g.L.Link.sent c.say_goodbye.new.link) c.args.service.now c.step.new.service c.step.new.more c.step.new.watch
    (going_more g.D.Desk.answers g.D.Desk.gives
    (record { pass = c.args.pass.now; left = g.L.Link.left c.args.link.now; quiets = g.L.Link.quiets c.args.link.now; put = g.P.Ports.sent c.args.ports.now; faults = g.P.Ports.faults c.args.ports.now; moment = g.K.Clock.last c.args.clock.now })
    (record { pass = c.loop.pass; left = g.L.Link.left c.loop.link; quiets = g.L.Link.quiets c.loop.link; put = g.P.Ports.sent c.loop.ports; faults = g.P.Ports.faults c.loop.ports; moment = g.K.Clock.last c.loop.clock })
    (record { pass = c.step.new.pass; left = g.L.Link.left c.step.new.link; quiets = g.L.Link.quiets c.step.new.link; put = g.P.Ports.sent c.step.new.ports; faults = g.P.Ports.faults c.step.new.ports; moment = g.K.Clock.last c.step.new.clock })
    (g.L.Link.sent c.args.link.now) (g.L.Link.sent c.loop.link) (g.L.Link.sent c.step.new.link) c.args.service.now c.loop.service c.step.new.service c.loop.more c.step.new.more c.loop.watch c.step.new.watch c.loop.invariant.going c.in-None-step.ensures.steps)
    (c.is_given_up.ensures c.if-is_given_up.true) c.say_goodbye.ensures.says refl c.say_goodbye.ensures.keeps_left c.say_goodbye.ensures.quiet refl refl refl
