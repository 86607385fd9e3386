use Rattle.std.proofs.Common.{ap, ◌∙◌, arith}
use Rattle.h2_conn.specs.Continuations.{with_continuation}
use Rattle.h2_conn.proofs.Continuations.{in_order, fits, kept_more, settles_more, settles_plain}
use Rattle.h2_conn.proofs.receiver.Receiver.take_more.Goals as goal

pub returns-in_default : goal.returns-in_default
returns-in_default c =
    settles_plain c.take_kept.result c.self.inside.continuation c.take.result c.take.new.self c.self.inside.state c.args.self.now c.take_kept.new.conn _ c.args.front.now c.in_default.is c.take.ensures.value c.take.ensures.after c.self.view_is c.in_ok-extend_from_slice.ensures c.take_kept.ensures

pub returns-then-payload_len-continuation : goal.returns-then-payload_len-continuation
returns-then-payload_len-continuation c =
    kept_more c.in-Some.continuation _ c.self.inside.state c.args.self.now _ c.args.front.now (ap (λ f. with_continuation f c.self.inside.state) c.in-Some.ensures.value ∙ c.self.view_is) (in_order c.self.inside.continuation c.in-Some.continuation c.self.inside.state c.in-Some.ensures.value c.self.invariant) (ap (λ x. record c.in-Some.continuation { block = record c.in-Some.continuation.block { fragment = x } }) c.in_ok-extend_from_slice-2.ensures.ok) (omega (arith, c.payload_len.ensures, c.if-payload_len-continuation.true)) c.nothing.ensures

pub take_continuation-requires-clause-whole : goal.take_continuation-requires-clause-whole
take_continuation-requires-clause-whole c =
    let few = fits c.in-Some.continuation _ c.self.inside.state c.args.self.now c.args.front.now (ap (λ f. with_continuation f c.self.inside.state) c.in-Some.ensures.value ∙ c.self.view_is) (in_order c.self.inside.continuation c.in-Some.continuation c.self.inside.state c.in-Some.ensures.value c.self.invariant) (ap (λ x. record c.in-Some.continuation { block = record c.in-Some.continuation.block { fragment = x } }) c.in_ok-extend_from_slice-2.ensures.ok) c.requires in
    omega (arith, few, c.payload_len.ensures, c.if-payload_len-continuation.false)

pub returns : goal.returns
returns c =
    rw c.take.ensures.after (settles_more c.take_continuation.result c.in-Some.continuation _ c.self.inside.state c.args.self.now c.take_continuation.new.conn c.args.front.now (ap (λ f. with_continuation f c.self.inside.state) c.in-Some.ensures.value ∙ c.self.view_is) (in_order c.self.inside.continuation c.in-Some.continuation c.self.inside.state c.in-Some.ensures.value c.self.invariant) (ap (λ x. record c.in-Some.continuation { block = record c.in-Some.continuation.block { fragment = x } }) c.in_ok-extend_from_slice-2.ensures.ok) c.take_continuation.ensures)
