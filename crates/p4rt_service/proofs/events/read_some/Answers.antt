use Rattle.std.proofs.Common.{List, ap}
use Rattle.h2_conn.specs.declared.event.H2Event.{H2Event}
use Rattle.h2_conn.specs.declared.phase.Phase.{Phase}
use Rattle.p4rt_service.proofs.events.read_some.Goals as goal

pub returns-clause-link : goal.returns-clause-link
returns-clause-link c = ap (λ (x : Phase × List H2Event). record { lane = c.args.link.now.lane; calls = c.args.link.now.calls; conn = x.0 }) c.in_ok-used.ensures.2.0

pub returns-clause-given : goal.returns-clause-given
returns-clause-given c = ap (λ (x : Phase × List H2Event). x.1) c.in_ok-used.ensures.2.0
