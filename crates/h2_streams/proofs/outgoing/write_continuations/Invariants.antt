use Rattle.std.proofs.Common.{◌-◌, ◌++◌}
use Rattle.h2_streams.specs.Sending.{spellings, continuations}
use Rattle.h2_streams.proofs.Pieces.{AreContinued}
use Rattle.h2_streams.proofs.outgoing.write_continuations.Given as goal

abbrev pub invariant-loop : goal.invariant-loop
invariant-loop l = AreContinued (l.fn.out ++ spellings (continuations (l.count) l.size l.stream l.block)) l.out (l.count - l.counter) l.size l.stream l.rest
