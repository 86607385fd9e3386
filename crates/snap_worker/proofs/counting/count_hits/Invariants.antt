use Rattle.std.proofs.Common.{◌≡◌, take}
use Rattle.snap_worker.specs.Counting.{after_packet}
use Rattle.snap_worker.proofs.counting.count_hits.Given as goal

abbrev pub invariant-loop-hit : goal.invariant-loop-hit
invariant-loop-hit l = record {
  counted : l.seat ≡ after_packet l.bytes (take l.hit-index l.hits) l.initial.seat;
  bank : l.seat.bank ≡ l.initial.seat.bank;
  parts : l.seat.parts ≡ l.initial.seat.parts;
}
