use Rattle.std.proofs.Common.{◌∙◌, ap, sym}
use Rattle.live_desk.proofs.desk_worker.DeskWorker.learn.Goals as goal
use Rattle.snap_worker.specs.Working.{Working}

pub learn-requires : goal.learn-requires
learn-requires g c = c.as_told.ensures.list ∙ sym c.self.invariant.0

pub invariant_of-self : goal.invariant_of-self
invariant_of-self g c =
    let i = c.self.invariant in (
      c.learn.ensures.own.list ∙ i.0,
      c.learn.ensures.own.start ∙ i.1,
      ap (λ (w : Working). w.seat.bank) c.learn.ensures.others ∙ i.2,
    )
