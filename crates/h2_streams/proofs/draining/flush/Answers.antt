use Rattle.std.proofs.Common.{arith}
use Rattle.h2_streams.proofs.Flushes.{next_place, all_done}
use Rattle.h2_streams.proofs.draining.flush.Goals as goal

pub loop-place-preserved : goal.loop-place-preserved
loop-place-preserved c = next_place _ _ _ _ _ _ _ _ (omega (arith, c.len-place-end.ensures)) c.index_mut.ensures.value c.in_ok-drain.ensures c.loop-place.invariant

pub returns : goal.returns
returns c = all_done _ _ _ _ (omega (arith, c.loop-place.invariant.all)) c.loop-place.invariant.so_far
