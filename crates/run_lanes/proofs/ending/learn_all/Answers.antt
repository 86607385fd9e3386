use Rattle.std.proofs.Common.{subst}
use Rattle.ctl_lock.specs.Calls.{journal_of}
use Rattle.plane_spec.specs.Legal.{Legal}
use Rattle.plane_spec.specs.Planes.{opened}
use Rattle.pub_snap.specs.Beginnings.{Beginning, Begins}
use Rattle.run_lanes.proofs.Closes.{told_all}
use Rattle.run_lanes.proofs.ending.learn_all.Goals as goal

pub returns-clause-told : goal.returns-clause-told
returns-clause-told g c =
    let last : Beginning = c.told.result.now in
    let told : Beginning = c.learn.new.self.told in
    let legal : Legal (opened told.start) told.events = subst (λ (b : Beginning). Legal (opened b.start) b.events) c.told-2.ensures c.len-events.ensures.legal in
    let all = told_all g.J.Naming.start (journal_of c.args.closed.now.journal) last told c.told.ensures.start c.told.ensures.events legal c.learn.ensures.learnt in
    subst (λ (b : Beginning). Begins told b) c.told.ensures.told all
