use Rattle.std.proofs.Common.{◌≡◌, ◌≤◌, drop, length}
use Rattle.program_spec.specs.Parsing.{ops_done}
use Rattle.pkt_codec.specs.Room.{AreAsLarge}
use Rattle.pkt_codec.specs.Steps.{reading_at}
use Rattle.pkt_codec.proofs.parsing.run_ops.Given as goal

abbrev pub invariant-loop-op : goal.invariant-loop-op
invariant-loop-op l = record {
  done : ops_done l.program l.ops (reading_at l.packet l.initial.used l.initial.store) ≡ ops_done l.program (drop l.op-index l.ops) (reading_at l.packet l.used l.store);
  used : l.used ≤ length l.packet;
  as_large : AreAsLarge l.initial.store l.store;
}
