use Rattle.std.proofs.Common.{◌∙◌, ap, sym}
use Rattle.live_desk.proofs.pass.Pass.learn.Goals as goal
use Rattle.pub_snap.proofs.Listings.{begins_trans}
use Rattle.snap_worker.specs.Working.{Working}

pub learn-requires : goal.learn-requires
learn-requires g c = c.as_told.ensures.list ∙ sym (c.self.invariant.6.list ∙ c.self.invariant.4)

pub invariant_of-self : goal.invariant_of-self
invariant_of-self g c =
    let i = c.self.invariant in (
      i.0,
      i.1,
      i.2,
      i.3,
      i.4,
      i.5,
      begins_trans c.self.inside.last c.self.inside.worker.told c.learn.new.self.told i.6 c.learn.ensures.own,
      ap (λ (w : Working). w.seat.bank) c.learn.ensures.others ∙ i.7,
      i.8,
    )
