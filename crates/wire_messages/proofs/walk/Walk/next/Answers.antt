use Rattle.wire_messages.proofs.Walking.{some_more, none_more, walked_fault}
use Rattle.wire_messages.proofs.walk.Walk.next.Goals.{in-Ok, in-Err}
use Rattle.wire_messages.proofs.walk.Walk.next.Goals as goal

pub returns-clause-some : goal.returns-clause-some
returns-clause-some c = elim c.match-next.branch [
  | in-Ok w ↦ rw (← c.self.view_is, w.result-is) (some_more _ _ _ w.in-Ok.ensures.field)
  | in-Err w ↦ rw w.result-is tt
]

pub returns-clause-none : goal.returns-clause-none
returns-clause-none c = elim c.match-next.branch [
  | in-Ok w ↦ rw (← c.self.view_is, w.result-is) (none_more _ _ (λ e. c.next.ensures.end.0 (rw e at w.in-Ok.is)))
  | in-Err w ↦ rw (← c.self.view_is, w.result-is) (walked_fault _ _ w.in-Err.ensures.fault)
]
