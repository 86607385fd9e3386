use Rattle.ctl_core.proofs.Handling.{may_follow, is_available, still_alive}
use Rattle.ctl_core.proofs.calls.prepare.Goals as goal

pub returns-clause-available : goal.returns-clause-available
returns-clause-available g c = is_available c.args.image.now.now (g.C.Counts.figures c.args.counts.now) c.args.lane c.args.number c.args.call.now _ c.in_ok-prepared.ensures.prepared.code

pub returns-clause-may : goal.returns-clause-may
returns-clause-may g c = may_follow c.args.image.now.now (g.C.Counts.figures c.args.counts.now) c.args.lane c.args.number c.args.call.now _ c.requires.alive c.in_ok-prepared.ensures.prepared.events

pub returns-clause-alive : goal.returns-clause-alive
returns-clause-alive g c = still_alive c.args.image.now.now (g.C.Counts.figures c.args.counts.now) c.args.lane c.args.number c.args.call.now _ c.requires.alive c.in_ok-prepared.ensures.prepared.events
