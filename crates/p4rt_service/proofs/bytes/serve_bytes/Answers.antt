use Rattle.std.proofs.Common.{arith, rules, ◌≡◌, ◌+◌, ◌-◌, length}
use Rattle.p4rt_service.specs.Dialogues.{each, noting}
use Rattle.p4rt_service.specs.Turns.{byte_served}
use Rattle.p4rt_service.proofs.Asking.{halted}
use Rattle.p4rt_service.proofs.Pieces.{none_served, next_served, served_short, all_served}
use Rattle.p4rt_service.proofs.bytes.serve_bytes.Goals as goal

pub loop-init : goal.loop-init
loop-init g c = (c.requires, none_served (noting g.D.Desk.answers) (c.args.pass.now, c.args.due.now) c.args.piece.now (record { link = c.args.link.now; sent = c.args.sent.now }) _ (omega arith))

pub serve_some-requires-clause-of : goal.serve_some-requires-clause-of
serve_some-requires-clause-of g c = c.loop.invariant.0

pub returns-in_err-used-clause-held : goal.returns-in_err-used-clause-held
returns-in_err-used-clause-held g c =
    halted (noting g.D.Desk.answers) c.from_residual.result (each byte_served c.args.piece.now (record { link = c.args.link.now; sent = c.args.sent.now })) (record { link = c.serve_some.new.link; sent = c.serve_some.new.sent }) c.from_residual.ensures.0
    (served_short (noting g.D.Desk.answers) c.args.piece.now c.loop.rest.now (record { link = c.args.link.now; sent = c.args.sent.now }) (record { link = c.loop.link; sent = c.loop.sent }) _ c.in_err-used.ensures.held c.loop.invariant.1)

pub loop-preserved : goal.loop-preserved
loop-preserved g c = (
  c.in_ok-used.ensures.of,
  next_served (noting g.D.Desk.answers) c.args.piece.now c.loop.rest.now c.split_at.result.1.now c.in_ok-used.used (record { link = c.args.link.now; sent = c.args.sent.now }) (record { link = c.loop.link; sent = c.loop.sent }) (record { link = c.serve_some.new.link; sent = c.serve_some.new.sent })
      (length c.args.piece.now - c.loop.counter) (length c.args.piece.now - (c.loop.counter + 1)) c.in_ok-used.ensures.within.0 c.in_ok-used.ensures.within.1 c.split_at.ensures.back (omega arith) c.in_ok-used.ensures.held c.loop.invariant.1,
)

pub returns-then-is_empty-clause-of : goal.returns-then-is_empty-clause-of
returns-then-is_empty-clause-of g c = c.loop.invariant.0

pub returns-then-is_empty-clause-held : goal.returns-then-is_empty-clause-held
returns-then-is_empty-clause-held g c =
    let none : length c.loop.rest.now ≡ 0 = search rules in
    all_served (noting g.D.Desk.answers) c.args.piece.now c.loop.rest.now (record { link = c.args.link.now; sent = c.args.sent.now }) (record { link = c.loop.link; sent = c.loop.sent }) _ (omega arith) c.loop.invariant.1

pub returns-clause-of : goal.returns-clause-of
returns-clause-of g c = c.loop.invariant.0

pub returns-clause-held : goal.returns-clause-held
returns-clause-held g c =
    all_served (noting g.D.Desk.answers) c.args.piece.now c.loop.rest.now (record { link = c.args.link.now; sent = c.args.sent.now }) (record { link = c.loop.link; sent = c.loop.sent }) _ (omega (arith, c.loop.invariant.1.few)) c.loop.invariant.1
