use Rattle.std.proofs.Common.{◌≡◌, map, take}
use Rattle.canon_bytes.specs.ByteString.{canon}
use Rattle.pkt_worker.proofs.single.spelled.Given as goal

abbrev pub invariant-loop-number : goal.invariant-loop-number
invariant-loop-number l = l.list ≡ map canon (take l.number-index l.numbers)
