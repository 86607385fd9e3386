use Rattle.std.proofs.Common.{◌≡◌, ℕ, ◌-◌, ◌+◌, ◌/◌, ◌%◌, ◌^◌, ◌≤◌, ◌<◌}
use Rattle.pkt_bits.specs.Field.{number_bits}
use Rattle.pkt_codec.specs.Sums.{weighed, IsOnesSum}
use Rattle.pkt_codec.proofs.ones.add.Given as goal

abbrev pub invariant-loop-left : goal.invariant-loop-left
invariant-loop-left l = record {
  few : l.left ≤ l.width;
  at : l.at ≡ (l.offset + (l.width - l.left)) % 16;
  word : l.total < 2 ^ 16;
  so_far : (before : ℕ) → IsOnesSum l.sum before → IsOnesSum l.total (before + weighed l.offset (number_bits (l.width - l.left) (l.number / 2 ^ l.left)));
}

abbrev pub decreases-loop-left : goal.decreases-loop-left
decreases-loop-left l = l.left
