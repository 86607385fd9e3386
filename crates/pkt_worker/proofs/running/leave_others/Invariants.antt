use Rattle.std.proofs.Common.{◌≡◌, ◌+◌, ◌*◌, ◌≤◌, drop, length}
use Rattle.canon_bytes.specs.Bits.{bits}
use Rattle.packet_spec.specs.Meaning.{joined, copies_left}
use Rattle.pkt_codec.specs.Room.{AreAsLarge}
use Rattle.pkt_worker.specs.Copies.{with_last}
use Rattle.pkt_worker.proofs.running.leave_others.Given as goal

abbrev pub invariant-loop-replica : goal.invariant-loop-replica
invariant-loop-replica l = record {
  together : with_last l.copies (joined l.out (copies_left l.plane.now l.cpu (bits l.rest) l.out.sample l.store (drop l.replica-index l.replicas) l.out.hits))
      ≡ joined l.initial.out (copies_left l.plane.now l.cpu (bits l.rest) l.initial.out.sample l.store l.replicas l.initial.out.hits);
  sample : l.out.sample ≡ l.initial.out.sample;
  count : l.copies.count ≡ l.replica-index;
  hits : length l.out.hits ≤ 16640 + l.replica-index * 8320;
  as_large : AreAsLarge l.store l.copy;
}
