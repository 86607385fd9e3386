use Rattle.std.proofs.Common.{Some, ap, ◌∙◌}
use Rattle.link_loop.specs.Doings.{turn_given, packet_given}
use Rattle.link_loop.proofs.StepLaws.{none_taken, none_carried, message_taken}
use Rattle.link_loop.proofs.giving.hand_on.Goals as goal

pub returns-in-None-clause-takes : goal.returns-in-None-clause-takes
returns-in-None-clause-takes g c = none_taken g.D.Desk.answers c.args.pass.now (g.L.Link.sent c.args.link.now) c.args.service.now (turn_given c.args.next) (ap turn_given c.in-None.is)

pub returns-in-None-clause-put : goal.returns-in-None-clause-put
returns-in-None-clause-put g c = none_carried (g.P.Ports.sent c.args.ports.now) (g.P.Ports.faults c.args.ports.now) (packet_given c.args.next) (ap packet_given c.in-None.is)

pub returns-in-Some-Output-clause-takes : goal.returns-in-Some-Output-clause-takes
returns-in-Some-Output-clause-takes g c = none_taken g.D.Desk.answers c.args.pass.now (g.L.Link.sent c.args.link.now) c.args.service.now (turn_given c.args.next) (ap turn_given c.in-Some-Output.is ∙ ap (λ x. turn_given (Some x)) c.in-Some-Output.field-0-is)

pub returns-in-Some-Message-clause-takes : goal.returns-in-Some-Message-clause-takes
returns-in-Some-Message-clause-takes g c =
    rw (c.in-Some-Message.is, c.in-Some-Message.field-0-is)
    (message_taken g.D.Desk.answers c.deliver.result c.args.pass.now (g.L.Link.sent c.args.link.now) (g.L.Link.sent c.deliver.new.link) c.args.service.now c.deliver.new.service c.in-Some-Message.message c.deliver.ensures.takes)

pub returns-in-Some-Message-clause-put : goal.returns-in-Some-Message-clause-put
returns-in-Some-Message-clause-put g c = none_carried (g.P.Ports.sent c.args.ports.now) (g.P.Ports.faults c.args.ports.now) (packet_given c.args.next) (ap packet_given c.in-Some-Message.is ∙ ap (λ x. packet_given (Some x)) c.in-Some-Message.field-0-is)

pub returns-in-Some-Overflow-clause-put : goal.returns-in-Some-Overflow-clause-put
returns-in-Some-Overflow-clause-put g c = none_carried (g.P.Ports.sent c.args.ports.now) (g.P.Ports.faults c.args.ports.now) (packet_given c.args.next) (ap packet_given c.in-Some-Overflow.is ∙ ap (λ x. packet_given (Some x)) c.in-Some-Overflow.field-0-is)
