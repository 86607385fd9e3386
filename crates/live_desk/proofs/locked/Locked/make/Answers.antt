use Rattle.std.proofs.Common.{◌≡◌, ◌≤◌, ◌-◌, ◌^◌, ◌∙◌, ◌++◌, ◌∷◌, ap, sym, List, [], slice_index, subst, arith, append-nil}
use Rattle.ctl_core.specs.Core.{raised}
use Rattle.lane_table.specs.Lanes.{Journal, with_entry}
use Rattle.live_desk.specs.Locked.{IsSigned, IsStanding, Locking, figures_of, seat_of}
use Rattle.live_desk.specs.declared.call_steps.CallSteps.{CallSteps}
use Rattle.live_desk.proofs.Standing.{is_done, no_fewer}
use Rattle.live_desk.proofs.locked.Locked.make.Goals as goal
use Rattle.p4_types.specs.declared.events.Start.{Start}
use Rattle.plane_spec.specs.Config.{Event}
use Rattle.plane_spec.specs.Planes.{applied, opened}
use Rattle.pub_snap.specs.Beginnings.{Beginning}
use Rattle.pub_snap.specs.Snapshots.{all_of}
use Rattle.switch_spec.specs.Answer.{answer_to}

pub reply-reply-requires-clause-state : goal.reply-reply-requires-clause-state
reply-reply-requires-clause-state g c =
    let line = c.self.inside.line in
    ap (applied (opened g.J.Naming.start)) (ap (λ (l : List Event). line.told.events ++ l) c.self.invariant.0 ∙ append-nil line.told.events)
    ∙ ap (λ (s : Start). applied (opened s) line.told.events) (sym c.self.invariant.2)
    ∙ sym c.self.invariant.4.control

pub call_steps-made-requires : goal.call_steps-made-requires
call_steps-made-requires g c =
    let before = c.steps-before.ensures in
    let few : c.self.inside.control.steps ≤ 2 ^ 64 - 1 = omega (arith, before, c.steps-before.type_inv) in
    let old = c.self.inside.control in
    let answered = answer_to old.control (figures_of c.args.figures.now) c.args.lane (raised (slice_index old.calls c.args.lane) 1) c.args.call.now in
    let grown = no_fewer old.control c.reply-reply.new.control.control old.steps (all_of c.self.inside.line) (all_of c.reply-reply.new.line) answered c.reply-reply.result few c.reply-reply.ensures.handled in
    omega (arith, grown, before, c.reply-reply.ensures.steps)

pub invariant_of-self : goal.invariant_of-self
invariant_of-self g c =
    let made : List CallSteps = c.self.inside.seat.entries in
    let signed : CallSteps = c.call_steps-made.result in
    let done = is_done g.J.Naming.list g.J.Naming.start c.self.inside.line c.reply-reply.new.line c.tell-told.result c.self.inside.control c.reply-reply.new.control c.self.inside.seat.entries
    c.args.seat.now c.sign.new.lane c.args.lane c.args.figures.now c.args.call.now c.reply-reply.result c.steps-before.result c.call_steps-made.result
    c.self.invariant.0 c.self.invariant.1 c.self.invariant.2 c.self.invariant.4 c.requires.lane c.requires.number
    (ap (λ (b : Beginning). b.events) c.tell-told.ensures.told ∙ c.publish.ensures.told) c.tell-told.ensures.list c.tell-told.ensures.start c.tell-told.ensures.legal c.tell-told.ensures.few
    c.reply-reply.ensures.refused c.reply-reply.ensures.handled c.reply-reply.ensures.steps c.reply-reply.ensures.counted
    c.steps-before.ensures c.call_steps-made.ensures c.sign.ensures.agreed c.sign.ensures.lane in
    let entries : c.sign.new.journal.entries ≡ made ++ signed ∷ [] = ap (λ (s : Journal CallSteps). s.entries) c.sign.ensures.journal in
    let there = subst (λ (b : Beginning). IsStanding b c.reply-reply.new.control (made ++ signed ∷ [])) c.tell-told.ensures.told done.standing in (
      c.publish.ensures.pending,
      c.publish.ensures.list,
      c.publish.ensures.start,
      c.sign.ensures.journal ∙ ap (λ (s : Journal CallSteps). with_entry s signed) c.self.invariant.3 ∙ ap (seat_of g.J.Naming.table) (sym entries),
      subst (λ (l : List CallSteps). IsStanding c.publish.new.self.told c.reply-reply.new.control l) (sym entries) there,
    )

pub returns-clause-signed : goal.returns-clause-signed
returns-clause-signed g c =
    let done = is_done g.J.Naming.list g.J.Naming.start c.self.inside.line c.reply-reply.new.line c.tell-told.result c.self.inside.control c.reply-reply.new.control c.self.inside.seat.entries
    c.args.seat.now c.sign.new.lane c.args.lane c.args.figures.now c.args.call.now c.reply-reply.result c.steps-before.result c.call_steps-made.result
    c.self.invariant.0 c.self.invariant.1 c.self.invariant.2 c.self.invariant.4 c.requires.lane c.requires.number
    (ap (λ (b : Beginning). b.events) c.tell-told.ensures.told ∙ c.publish.ensures.told) c.tell-told.ensures.list c.tell-told.ensures.start c.tell-told.ensures.legal c.tell-told.ensures.few
    c.reply-reply.ensures.refused c.reply-reply.ensures.handled c.reply-reply.ensures.steps c.reply-reply.ensures.counted
    c.steps-before.ensures c.call_steps-made.ensures c.sign.ensures.agreed c.sign.ensures.lane in
    subst (λ (l : Locking). IsSigned c.args.lane c.args.call.now c.args.figures.now l.told c.args.seat.now c.sign.new.lane c.reply-reply.result c.tell-told.result) c.self.view_is done.signed
