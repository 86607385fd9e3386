use Rattle.pub_snap.proofs.Listings.{compared}
use Rattle.pub_snap.proofs.told.Told.begins.Goals as goal

pub returns : goal.returns
returns c = rw (← c.self.view_is, ← c.other.view_is) (compared c.self.inside.known c.other.inside.known _ c.self.invariant c.other.invariant c.begins.ensures)
