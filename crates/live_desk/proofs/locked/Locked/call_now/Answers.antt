use Rattle.std.proofs.Common.{◌≡◌, ◌∙◌, ap, sym, subst, length}
use Rattle.live_desk.specs.Passing.{IsCalled, Passing}
use Rattle.live_desk.proofs.Asking.{called}
use Rattle.live_desk.proofs.locked.Locked.call_now.Goals as goal
use Rattle.pub_snap.specs.Beginnings.{Beginning, Begins}
use Rattle.snap_worker.specs.Working.{Working}

pub learn-requires : goal.learn-requires
learn-requires g c =
    let worker = c.pass.inside.worker in
    let kept : c.look-figures.new.worker.told.list ≡ worker.told.list = ap (λ (w : Working). w.told.list) c.look-figures.ensures.looked.others in
    c.make-reply.ensures.list ∙ sym (kept ∙ c.pass.invariant.6.list ∙ c.pass.invariant.4)

pub invariant_of-pass : goal.invariant_of-pass
invariant_of-pass g c =
    let i = c.pass.invariant in (
      c.make-reply.ensures.seat.0 ∙ i.0,
      c.make-reply.ensures.seat.1 ∙ i.1,
      i.2,
      i.3,
      c.make-reply.ensures.list,
      c.make-reply.ensures.start,
      c.learn.ensures.learnt,
      ap (λ (w : Working). w.seat.bank) c.learn.ensures.others ∙ c.look-figures.ensures.looked.seat.bank ∙ i.7,
      c.make-reply.ensures.signed.own_after,
    )

pub returns-clause-called : goal.returns-clause-called
returns-clause-called g c =
    let p = c.pass.inside in
    let base : Beginning = c.args.self.now.told in
    let told : Beginning = c.make-reply.result.1 in
    let signed = c.make-reply.ensures.signed in
    let after : Passing = record { lane = p.lane; calls = length c.make-reply.new.seat.entries; last = told; worker = c.learn.new.self; waiting = p.waiting.items } in
    let begins : Begins p.worker.told base = subst (λ (v : Passing). Begins v.worker.told base) (sym c.pass.view_is) c.requires.begins in
    let whole = called c.args.call.now c.make-reply.result.0 p.lane p.seat.entries c.make-reply.new.seat.entries p.last base told p.worker c.look-figures.new.worker c.learn.new.self p.waiting.items
    c.next_slot-slots.result c.look-figures.result begins c.pass.invariant.6 c.pass.invariant.8 signed.own_before signed.made signed.begins signed.one
    c.look-figures.ensures.looked c.look-figures.ensures.sums c.look-figures.ensures.own c.look-figures.ensures.drawn c.next_slot-slots.ensures.slot
    c.learn.ensures.others c.learn.ensures.learnt c.learn.ensures.one in
    subst (λ (v : Passing). IsCalled c.args.call.now c.make-reply.result.0 v after) c.pass.view_is whole

pub returns-clause-size : goal.returns-clause-size
returns-clause-size g c = c.make-reply.ensures.signed.size
