use Rattle.std.proofs.Common.{◌∙◌, ◌∷◌, subst, Bool, List}
use Rattle.ctl_lock.specs.Passing.{IsPass, Passes}
use Rattle.ctl_lock.proofs.Going.{pass_more}
use Rattle.ctl_lock.proofs.desk.TapeDesk.ask_next.Goals as goal
use Rattle.switch_spec.specs.declared.calls.LaneCall.{LaneCall}

pub invariant_of-result-2 : goal.invariant_of-result-2
invariant_of-result-2 g c =
    let i = c.pass.inside in
    let j = g.J.Naming in
    let kept = c.pass.invariant in
    let rest : List LaneCall = c.pop_front.new.self.items in
    let whole : IsPass j.list j.start j.bank i.lane (j.calls i.lane) i.seat.entries i.todo.items i.work =
    subst (λ (b : Bool). Passes b j.list j.start j.bank i.lane (j.calls i.lane) i.seat.entries i.todo.items i.work) c.if-pass.false kept.4 in
    let next : IsPass j.list j.start j.bank i.lane (j.calls i.lane) i.seat.entries (c.in-Some.call ∷ rest) i.work =
    subst (λ (l : List LaneCall). IsPass j.list j.start j.bank i.lane (j.calls i.lane) i.seat.entries l i.work) c.in-Some.ensures.items whole in (
      c.in-Ok.ensures.seat.0 ∙ kept.0,
      c.in-Ok.ensures.seat.1 ∙ kept.1,
      kept.2,
      kept.3,
      pass_more j.list j.start j.bank i.lane i.cpu (j.calls i.lane) rest c.in-Some.call i.seat c.call_whole.new.seat i.work c.call_whole.new.work next kept.3 c.in-Ok.ensures.made,
    )
