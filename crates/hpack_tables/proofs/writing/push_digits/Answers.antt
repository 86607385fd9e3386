use Rattle.std.proofs.Common.{arith}
use Rattle.hpack_tables.proofs.Digits.{goes_on, is_done}
use Rattle.hpack_tables.proofs.writing.push_digits.Goals as goal

pub loop-left-preserved : goal.loop-left-preserved
loop-left-preserved c = rw c.in_ok-push.ensures.items (goes_on _ _ _ _ (omega arith) c.loop-left.invariant)

pub returns : goal.returns
returns c = rw c.in_ok-push-2.ensures.items (is_done _ _ _ _ (omega arith) c.loop-left.invariant)
