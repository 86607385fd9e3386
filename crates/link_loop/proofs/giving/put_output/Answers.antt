use Rattle.link_loop.proofs.StepLaws.{put_carried}
use Rattle.link_loop.proofs.giving.put_output.Goals as goal

pub returns-clause-put : goal.returns-clause-put
returns-clause-put g c =
    put_carried c.put-sent.result (g.P.Ports.sent c.args.ports.now) (g.P.Ports.sent c.put-sent.new.self) (g.P.Ports.faults c.args.ports.now) (g.P.Ports.faults c.put-sent.new.self) c.args.output.now.port c.args.output.now.bytes
    (rw c.as_slice.ensures at c.put-sent.ensures.puts) c.put-sent.ensures.failed c.put-sent.ensures.no_fault
