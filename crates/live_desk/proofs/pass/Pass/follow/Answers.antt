use Rattle.std.proofs.Common.{◌∙◌}
use Rattle.live_desk.proofs.pass.Pass.follow.Goals as goal
use Rattle.pub_snap.proofs.Listings.{begins_trans}

pub invariant_of-self : goal.invariant_of-self
invariant_of-self g c =
    let i = c.self.invariant in (
      i.0,
      i.1,
      i.2,
      i.3,
      i.4,
      i.5,
      begins_trans c.self.inside.last c.self.inside.worker.told c.run_alone.new.worker.told i.6 c.run_alone.ensures.ran.told,
      c.run_alone.ensures.bank ∙ i.7,
      i.8,
    )
