use Rattle.std.proofs.Common.{refl, take}
use Rattle.serve_run.proofs.Carrying.{one_broken, one_carried}
use Rattle.serve_run.proofs.ports.carry_next.Goals as goal

pub returns-in-All-clause-carried : goal.returns-in-All-clause-carried
returns-in-All-clause-carried g c =
    one_carried c.in-Packet.port (take c.in-Packet.len c.take.new.buf) (g.P.Ports.left c.args.ports.now) (g.P.Ports.left c.take.new.self) (g.P.Ports.left c.put_outputs-sent.new.ports)
    (g.P.Ports.sent c.args.ports.now) (g.P.Ports.sent c.take.new.self) (g.P.Ports.sent c.put_outputs-sent.new.ports) c.args.worker.now c.run.new.worker c.run.new.verdict
    c.in-Packet.ensures.takes c.put_outputs-sent.ensures.left c.take.ensures.keeps_sent (c.in-All.ensures.all refl) c.run.ensures

pub returns-in-Failed-sent-clause-carried : goal.returns-in-Failed-sent-clause-carried
returns-in-Failed-sent-clause-carried g c =
    one_broken c.in-Packet.port (take c.in-Packet.len c.take.new.buf) (g.P.Ports.left c.args.ports.now) (g.P.Ports.left c.take.new.self) (g.P.Ports.left c.put_outputs-sent.new.ports)
    (g.P.Ports.sent c.args.ports.now) (g.P.Ports.sent c.take.new.self) (g.P.Ports.sent c.put_outputs-sent.new.ports) c.args.worker.now c.run.new.worker c.run.new.verdict
    c.in-Packet.ensures.takes c.put_outputs-sent.ensures.left c.take.ensures.keeps_sent c.in-Failed-sent.ensures.some c.run.ensures
