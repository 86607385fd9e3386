use Rattle.std.proofs.Common.{◌≡◌, length, refl, sym, ap, rules, ◌∙◌}
use Rattle.std.proofs.lemmas.List.{map-id}
use Rattle.std.proofs.lemmas.Iterator.Adapters.{YieldsList-from_vec}
use Rattle.std.proofs.lemmas.Iterator.Consumers.{YieldsList-end}
use Rattle.std.specs.Vec.{vec_len}
use Rattle.p4rt_service.specs.Dialogues.{each, noting}
use Rattle.p4rt_service.specs.Serving.{event_served}
use Rattle.p4rt_service.proofs.Holding.{ended}
use Rattle.p4rt_service.proofs.Asking.{one_more, one_begun, halted, next_taken, next_is}
use Rattle.p4rt_service.proofs.answering.serve_events.Goals as goal

pub loop-event-init : goal.loop-event-init
loop-event-init g c = (c.requires, ended (noting g.D.Desk.answers) (c.args.pass.now, c.args.due.now) (c.args.pass.now, c.args.due.now) c.args.link.now c.args.link.now refl refl, c.into_iter-event-iterator.ensures.into_iter_gives.0 ∙ c.into_vec-event-items.ensures)

pub serve_event-requires : goal.serve_event-requires
serve_event-requires g c = c.loop-event.invariant.0

pub loop-event-preserved : goal.loop-event-preserved
loop-event-preserved g c = (
  c.in_ok-serve_event.ensures.of,
  one_more (noting g.D.Desk.answers) event_served c.loop-event.yielded c.in-Some.event c.args.link.now c.loop-event.link c.serve_event.new.link c.loop-event.invariant.1 c.in_ok-serve_event.ensures.held,
  next_taken c.loop-event.yielded _ _ c.args.events c.in-Some.event c.loop-event.invariant.2 c.in-Some.ensures.steps.0,
)

pub returns-in_err-serve_event-clause-held : goal.returns-in_err-serve_event-clause-held
returns-in_err-serve_event-clause-held g c =
    let whole = next_is c.loop-event.yielded _ _ c.args.events c.in-Some.event c.loop-event.invariant.2 c.in-Some.ensures.steps.0 in
    halted (noting g.D.Desk.answers) c.from_residual.result (each event_served c.args.events c.args.link.now) c.serve_event.new.link c.from_residual.ensures.0
    (rw whole (one_begun (noting g.D.Desk.answers) event_served c.loop-event.yielded _ c.in-Some.event c.args.link.now c.loop-event.link c.loop-event.invariant.1 c.in_err-serve_event.ensures.held))

pub returns-clause-of : goal.returns-clause-of
returns-clause-of g c = c.loop-event.invariant.0

pub returns-clause-held : goal.returns-clause-held
returns-clause-held g c =
    let h = c.into_iter-event-iterator.ensures.into_iter_gives in
    let k = c.into_vec-event-items.ensures in
    let count : vec_len c.into_vec-event-items.result ≡ length c.into_vec-event-items.result.items = search rules in
    let whole = YieldsList-from_vec c.args.events (h.0 ∙ k) (h.1 ∙ count ∙ ap length k) in
    let all : c.loop-event.yielded ≡ c.args.events = sym (map-id c.loop-event.yielded) ∙ (YieldsList-end whole c.loop-event.yielded c.loop-event.event-iterator c.loop-event.yielded_by c.next.result c.next.new.self c.in-None.is c.next.ensures.steps).0 in
    rw all at c.loop-event.invariant.1
