use Rattle.std.proofs.Common.{◌≡◌, [], List, ap, sym, subst}
use Rattle.std.specs.List.{AllByRecursion}
use Rattle.ctl_lock.specs.Calls.{journal_of}
use Rattle.ctl_lock.specs.Finishing.{Closing, Meeting}
use Rattle.lane_work.specs.Work.{Work}
use Rattle.pub_snap.specs.Beginnings.{Begins}
use Rattle.run_lanes.proofs.Closes.{has_carried}
use Rattle.run_lanes.proofs.ending.end_worker.Goals as goal
use Rattle.run_lanes.specs.Gathered.{IsThrough}
use Rattle.run_lanes.specs.Packets.{PacketPassing}

pub returns-clause-carried : goal.returns-clause-carried
returns-clause-carried g c =
    let j = g.J.Naming in
    let pass : PacketPassing = c.args.pass in
    let closed : Closing = c.args.closed.now in
    let work : Work = c.in_ok-mets.work in
    let done : Work = c.learn_all.new.work in
    let through : AllByRecursion (IsThrough (journal_of closed.journal)) pass.mets = subst (λ (mets : List Meeting). AllByRecursion (IsThrough (journal_of closed.journal)) mets) c.in_ok-mets.ensures.mets c.confirm_all.ensures.through in
    let told : Begins done.told closed.told = subst (λ (d : Closing). Begins done.told d.told) c.confirm_all.ensures.same c.learn_all.ensures.told in
    has_carried j.list j.start j.bank pass.lane j.items pass.todo pass.mets work done (journal_of closed.journal) closed.told c.in_ok-mets.ensures.whole (c.requires.ended c.in_ok-mets.ensures.some) through told c.learn_all.ensures.own
    c.learn_all.ensures.others
