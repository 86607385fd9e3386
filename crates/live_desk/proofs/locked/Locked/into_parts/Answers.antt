use Rattle.std.proofs.Common.{sym, subst}
use Rattle.live_desk.specs.Locked.{AreCounted}
use Rattle.live_desk.proofs.locked.Locked.into_parts.Goals as goal
use Rattle.pub_snap.specs.Beginnings.{Beginning}

pub returns-clause-counted : goal.returns-clause-counted
returns-clause-counted g c = subst (λ (b : Beginning). AreCounted b.events c.self.inside.seat.entries) (sym c.tell.ensures.told) c.self.invariant.4.own
