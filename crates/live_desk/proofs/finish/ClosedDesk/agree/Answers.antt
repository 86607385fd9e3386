use Rattle.std.proofs.Common.{◌≡◌, ◌∙◌, ap, subst, sym}
use Rattle.live_desk.specs.Callers.{events_by}
use Rattle.live_desk.specs.Locked.{Closing}
use Rattle.live_desk.specs.Passing.{Passing}
use Rattle.live_desk.proofs.Asking.{agreed}
use Rattle.live_desk.proofs.finish.ClosedDesk.agree.Goals as goal
use Rattle.pub_snap.specs.Beginnings.{Beginning, Begins}

pub returns-clause-begins : goal.returns-clause-begins
returns-clause-begins g c = subst (λ (b : Beginning). Begins b c.args.self.now.told) c.told.ensures.told c.wait_for.ensures

pub returns-clause-own : goal.returns-clause-own
returns-clause-own g c =
    let p = c.pass.inside in
    let known : Beginning = c.told.result.now in
    let seen : p.worker.told ≡ known = ap (λ (v : Passing). v.worker.told) c.pass.view_is ∙ sym c.told.ensures.told in
    let first : Begins p.last known = subst (λ (b : Beginning). Begins p.last b) seen c.pass.invariant.6 in
    let second : Begins known c.self.inside.told = subst (λ (b : Beginning). Begins known b) (sym (ap (λ (v : Closing). v.told) c.self.view_is)) c.wait_for.ensures in
    let own = agreed p.lane p.seat.number p.last known c.self.inside.told p.seat.entries c.self.inside.seat.entries first second c.pass.invariant.1 c.compare.ensures.agrees c.pass.invariant.8 c.self.invariant.5 in
    subst (λ (v : Passing). events_by v.lane c.args.self.now.told.events ≡ events_by v.lane v.last.events) c.pass.view_is
    (subst (λ (v : Closing). events_by p.lane v.told.events ≡ events_by p.lane p.last.events) c.self.view_is own)
