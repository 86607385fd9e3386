use Rattle.std.proofs.Common.{◌-◌, ◌++◌, length}
use Rattle.h2_streams.specs.Sending.{spellings, data_frames}
use Rattle.h2_streams.proofs.Pieces.{AreLeft}
use Rattle.h2_streams.proofs.outgoing.write_data_frames.Given as goal

abbrev pub invariant-loop : goal.invariant-loop
invariant-loop l = AreLeft (l.fn.out ++ spellings (data_frames (length l.bytes) l.size l.stream l.bytes)) l.out (l.end - l.counter) l.size l.stream l.rest
