use Rattle.std.proofs.Common.{◌-◌, ◌+◌, ◌*◌, ◌≡◌, ◌≤◌, ◌<◌, ◌/◌, ◌%◌, ◌^◌}
use Rattle.pkt_bits.specs.Field.{field, SameOutside}
use Rattle.pkt_bits.proofs.fields.put_whole.Given as goal

abbrev pub invariant-loop-left : goal.invariant-loop-left
invariant-loop-left l = record {
  whole : l.left % 8 ≡ 0;
  few : l.left ≤ l.width;
  here : 0 < l.left → l.next * 8 ≡ l.place * 8 + (l.width - l.left);
  so_far : field l.bytes (l.place * 8) (l.width - l.left) ≡ l.value / 2 ^ l.left;
  others : SameOutside l.initial.bytes l.bytes (l.place * 8) (l.width - l.left);
}

abbrev pub decreases-loop-left : goal.decreases-loop-left
decreases-loop-left l = l.left
