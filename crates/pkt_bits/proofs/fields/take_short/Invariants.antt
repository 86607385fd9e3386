use Rattle.std.proofs.Common.{◌-◌, ◌+◌, ◌*◌, ◌≡◌}
use Rattle.pkt_bits.specs.Field.{field}
use Rattle.pkt_bits.proofs.fields.take_short.Given as goal

abbrev pub invariant-loop-next : goal.invariant-loop-next
invariant-loop-next l = l.value ≡ field l.bytes (l.place * 8 + l.offset) ((l.next - l.place) * 8 - l.offset)
