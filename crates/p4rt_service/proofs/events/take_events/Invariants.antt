use Rattle.std.proofs.Common.{◌≡◌, ◌++◌}
use Rattle.std.specs.Vec.Iter.{into_iter_items}
use Rattle.p4rt_service.specs.Dialogues.{each, Held, noting}
use Rattle.p4rt_service.specs.Serving.{event_taken}
use Rattle.p4rt_service.proofs.events.take_events.Given as goal

abbrev pub invariant-loop-event : goal.invariant-loop-event
invariant-loop-event g l =
    g.D.Desk.is_of l.desk l.pass × Held (noting g.D.Desk.answers) (l.fn.pass, l.fn.due) (l.pass, l.due) (each event_taken l.yielded l.fn.link) l.link
    × (l.yielded ++ into_iter_items l.event-iterator ≡ l.fn.events)
