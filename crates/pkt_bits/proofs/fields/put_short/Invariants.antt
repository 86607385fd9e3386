use Rattle.std.proofs.Common.{◌-◌, ◌+◌, ◌*◌, ◌≡◌, ◌≤◌, ◌<◌, ◌/◌, ◌^◌}
use Rattle.pkt_bits.specs.Field.{field, SameOutside}
use Rattle.pkt_bits.proofs.fields.put_short.Given as goal

abbrev pub invariant-loop-left : goal.invariant-loop-left
invariant-loop-left l = record {
  within : l.behind < 8;
  few : l.left ≤ l.width;
  here : 0 < l.left → l.next * 8 + l.behind ≡ l.place * 8 + l.offset + (l.width - l.left);
  so_far : field l.bytes (l.place * 8 + l.offset) (l.width - l.left) ≡ l.value / 2 ^ l.left;
  others : SameOutside l.initial.bytes l.bytes (l.place * 8 + l.offset) (l.width - l.left);
}

abbrev pub decreases-loop-left : goal.decreases-loop-left
decreases-loop-left l = l.left
