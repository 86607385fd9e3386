use Rattle.std.proofs.Common.{refl, sym, ap}
use Rattle.h2_conn.proofs.HeaderSteps.{on_block, other_old}
use Rattle.h2_conn.proofs.headers.continuation.Goals as goal

pub returns : goal.returns
returns c =
    rw (on_block c.args.end_headers c.args.fragment.now c.args.conn.now c.args.conn.now.block c.in-Some.block _ (sym c.in-Some.ensures.value) (ap (λ x. record c.in-Some.block { fragment = x }) c.in_ok-extend_from_slice.ensures.ok))
    (other_old c.take_fragment.result _ c.args.conn.now c.take_fragment.new.conn _ refl (rw c.take.ensures.after at c.take_fragment.ensures))
