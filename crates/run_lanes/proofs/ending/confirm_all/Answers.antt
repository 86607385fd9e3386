use Rattle.std.proofs.Common.{◌≡◌, [], arith}
use Rattle.ctl_lock.specs.Calls.{journal_of}
use Rattle.run_lanes.proofs.Closes.{all_confirmed, none_left}
use Rattle.run_lanes.proofs.ending.confirm_all.Goals as goal
use Rattle.run_lanes.specs.Gathered.{IsThrough}

pub returns-clause-through : goal.returns-clause-through
returns-clause-through g c =
    let none : c.mets.mets.items ≡ [] = none_left c.mets.mets.items (omega (arith, c.mets.mets.ok.0, c.in_default.ensures.cases.0)) in
    all_confirmed (IsThrough (journal_of c.args.closed.now.journal)) c.args.mets.items c.mets.mets.items c.mets.invariant.1 none
