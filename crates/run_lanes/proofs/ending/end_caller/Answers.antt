use Rattle.std.proofs.Common.{◌≡◌, ◌∙◌, [], List, ap, sym, subst}
use Rattle.ctl_lock.proofs.Meeting.{signed_lane}
use Rattle.ctl_lock.specs.Finishing.{Closing}
use Rattle.ctl_lock.specs.Passing.{IsPass, Passing}
use Rattle.ctl_lock.specs.declared.signed.Signed.{Signed}
use Rattle.lane_table.specs.Lanes.{of_lane}
use Rattle.lane_work.specs.Work.{Work}
use Rattle.pub_snap.specs.Beginnings.{Beginning, Begins}
use Rattle.run_lanes.proofs.Closes.{has_called}
use Rattle.run_lanes.proofs.ending.end_caller.Goals as goal
use Rattle.switch_spec.specs.declared.calls.LaneCall.{LaneCall}

pub returns-clause-called : goal.returns-clause-called
returns-clause-called g c =
    let j = g.J.Naming in
    let before : Passing = c.args.pass in
    let pass : Passing = c.agree.new.pass in
    let closed : Closing = c.args.closed.now in
    let work : Work = c.in_ok-work.work in
    let done : Work = c.learn_all.new.work in
    let same : pass ≡ before = c.agree.ensures.same.1 in
    let closed_is : c.agree.new.self ≡ closed = c.agree.ensures.same.0 in
    let whole : IsPass j.list j.start j.bank before.lane (j.calls before.lane) before.made before.todo work =
    subst (λ (p : Passing). IsPass j.list j.start j.bank p.lane (j.calls p.lane) p.made p.todo work) same c.in_ok-work.ensures.whole in
    let ended : before.todo ≡ [] = c.requires.ended (ap (λ (p : Passing). p.failed) (sym same) ∙ c.in_ok-work.ensures.some) in
    let told : Begins done.told closed.told = subst (λ (d : Closing). Begins done.told d.told) closed_is c.learn_all.ensures.told in
    has_called j.list j.start j.bank before.lane j.calls before.made before.todo work done closed.journal closed.told whole ended c.agree.ensures.made (told.start ∙ c.learn_all.ensures.own.start ∙ whole.own.start_is) told c.learn_all.ensures.own c.learn_all.ensures.others
