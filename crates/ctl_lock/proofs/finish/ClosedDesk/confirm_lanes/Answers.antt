use Rattle.std.proofs.Common.{◌≡◌, ◌∙◌, ap, subst, List, []}
use Rattle.ctl_lock.specs.Calls.{journal_of}
use Rattle.ctl_lock.specs.Finishing.{Closing}
use Rattle.ctl_lock.specs.declared.signed.Signed.{Signed}
use Rattle.ctl_lock.proofs.Meeting.{on_lane, signed_lane}
use Rattle.ctl_lock.proofs.finish.ClosedDesk.confirm_lanes.Goals as goal
use Rattle.lane_table.specs.Lanes.{Journal, NoneFrom, of_lane}
use Rattle.switch_spec.specs.Carrying.{made_on}

pub returns-clause-others : goal.returns-clause-others
returns-clause-others g c = λ lane le.
    let items : List Signed = c.self.inside.journal.items in
    let none : of_lane signed_lane lane items ≡ [] = subst (λ (s : Journal Signed). NoneFrom signed_lane s.lanes s.entries) c.self.invariant.1 c.confirm_lanes.ensures.others lane le in
    subst (λ (l : List Signed). made_on lane (journal_of l) ≡ []) (ap (λ (v : Closing). v.journal) c.self.view_is) (on_lane lane items ∙ ap journal_of none)
