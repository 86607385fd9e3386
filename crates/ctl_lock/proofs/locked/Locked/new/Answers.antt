use Rattle.std.proofs.Common.{◌≡◌, ◌∙◌, ap, sym, List, [], subst}
use Rattle.ctl_lock.specs.Calls.{journal_of}
use Rattle.ctl_lock.specs.Locked.{IsStanding, SeeAll, seat_of}
use Rattle.plane_spec.specs.Planes.{opened}
use Rattle.ctl_lock.specs.declared.signed.Signed.{Signed}
use Rattle.pub_snap.specs.Snapshots.{Feed, all_of}
use Rattle.ctl_lock.proofs.Standing.{standing_new}
use Rattle.ctl_lock.proofs.locked.Locked.new.Goals as goal

pub invariant_of-result : goal.invariant_of-result
invariant_of-result g c =
    let none : all_of c.new.result ≡ [] = ap all_of c.new.ensures ∙ c.requires.nothing in
    let S : List Signed → Type 0 = λ l. IsStanding g.J.Naming.start (all_of c.new.result) c.args.control (journal_of l) in (
      ap (λ (f : Feed). f.pending) c.new.ensures ∙ c.requires.pending,
      c.requires.seat ∙ ap (seat_of g.J.Naming.table) (sym c.new-2.ensures.items),
      subst S (sym c.new-2.ensures.items) (standing_new g.J.Naming.start (all_of c.new.result) c.args.control none c.requires.control c.requires.steps c.requires.calls),
      subst (λ (l : List Signed). SeeAll (opened g.J.Naming.start) l) (sym c.new-2.ensures.items) tt,
    )
