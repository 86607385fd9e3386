use Rattle.std.proofs.Common.{◌-◌}
use Rattle.p4rt_service.specs.Dialogues.{noting}
use Rattle.p4rt_service.proofs.Pieces.{AreServed}
use Rattle.p4rt_service.proofs.bytes.serve_bytes.Given as goal

abbrev pub invariant-loop : goal.invariant-loop
invariant-loop g l =
    g.D.Desk.is_of l.desk l.pass
    × AreServed (noting g.D.Desk.answers) (l.fn.pass, l.fn.due) (l.pass, l.due) l.piece l.rest (record { link = l.fn.link; sent = l.fn.sent }) (record { link = l.link; sent = l.sent }) (l.end - l.counter)
