use Rattle.std.proofs.Common.{◌∙◌}
use Rattle.live_desk.proofs.desk_worker.DeskWorker.run.Goals as goal

pub invariant_of-self : goal.invariant_of-self
invariant_of-self g c =
    let i = c.self.invariant in
    let ran = c.run_at_last.ensures.ran in (
      ran.told.list ∙ i.0,
      ran.told.start ∙ i.1,
      c.run_at_last.ensures.bank ∙ i.2,
    )
