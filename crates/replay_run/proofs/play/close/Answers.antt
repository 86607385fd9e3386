use Rattle.std.proofs.Common.{◌≡◌, ◌∙◌, subst, sym}
use Rattle.ctl_lock.specs.Calls.{journal_of}
use Rattle.ctl_lock.specs.Finishing.{Closing}
use Rattle.replay_run.proofs.play.close.Goals as goal
use Rattle.run_lanes.specs.Gathered.{HasCalled, HasCarried, HasRead, OfEach}

pub report-requires-clause-called : goal.report-requires-clause-called
report-requires-clause-called g c =
    let same : c.end_workers.new.closed ≡ c.confirm_lanes.new.self = c.end_workers.ensures.same ∙ c.end_callers.ensures.same in
    subst (λ (d : Closing). OfEach (HasCalled d.told g.J.Naming.calls (journal_of d.journal)) 32 c.in-Ok.callers.items) (sym same) c.in-Ok.ensures.called

pub report-requires-clause-read : goal.report-requires-clause-read
report-requires-clause-read g c =
    let same : c.end_workers.new.closed ≡ c.confirm_lanes.new.self = c.end_workers.ensures.same ∙ c.end_callers.ensures.same in
    subst (λ (d : Closing). OfEach (HasRead g.J.Naming.start d.journal) 32 c.in-Ok.callers.items) (sym same) c.in-Ok.ensures.read

pub report-requires-clause-carried : goal.report-requires-clause-carried
report-requires-clause-carried g c =
    subst
    (λ (d : Closing). OfEach (HasCarried d.told g.J.Naming.items (journal_of d.journal)) 16 c.in-Ok-end_workers.workers.items)
    (sym c.end_workers.ensures.same)
    c.in-Ok-end_workers.ensures.carried
