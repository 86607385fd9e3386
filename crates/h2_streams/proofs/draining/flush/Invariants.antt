use Rattle.std.proofs.Common.{length}
use Rattle.h2_streams.specs.Sending.{flushed}
use Rattle.h2_streams.proofs.Flushes.{AreFlushed}
use Rattle.h2_streams.proofs.draining.flush.Given as goal

abbrev pub invariant-loop-place : goal.invariant-loop-place
invariant-loop-place l = AreFlushed (flushed l.fn.outgoing l.fn.streams.items) l.outgoing l.streams.items l.place (length l.fn.streams.items)
