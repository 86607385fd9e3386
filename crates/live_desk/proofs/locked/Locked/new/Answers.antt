use Rattle.std.proofs.Common.{◌≡◌, ◌∙◌, ap, sym, List, [], subst}
use Rattle.lane_table.specs.Lanes.{Journal}
use Rattle.live_desk.specs.Locked.{IsStanding, seat_of}
use Rattle.live_desk.specs.declared.call_steps.CallSteps.{CallSteps}
use Rattle.live_desk.proofs.Standing.{standing_new}
use Rattle.live_desk.proofs.locked.Locked.new.Goals as goal
use Rattle.plane_spec.specs.Planes.{opened}
use Rattle.pub_snap.specs.Snapshots.{Feed}

pub invariant_of-result : goal.invariant_of-result
invariant_of-result g c =
    let told = c.new.result.told in
    let start : told.start ≡ g.J.Naming.start = ap (λ (f : Feed). f.told.start) c.new.ensures ∙ c.requires.begin in
    let none : List CallSteps = [] in
    let empty : c.args.seat.entries ≡ [] = ap (λ (s : Journal CallSteps). s.entries) c.requires.seat in (
      ap (λ (f : Feed). f.pending) c.new.ensures ∙ c.requires.pending,
      ap (λ (f : Feed). f.told.list) c.new.ensures ∙ c.requires.list,
      start,
      c.requires.seat ∙ ap (seat_of g.J.Naming.table) (sym empty),
      subst (λ (l : List CallSteps). IsStanding told c.args.control l) (sym empty)
          (standing_new told c.args.control (ap (λ (f : Feed). f.told.events) c.new.ensures ∙ c.requires.nothing) (c.requires.control ∙ ap opened (sym start)) c.requires.steps c.requires.calls),
    )
