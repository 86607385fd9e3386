use Rattle.std.proofs.Common.{◌≡◌, ◌≤◌, ◌+◌, take, fold, length}
use Rattle.program_spec.specs.Actions.{primitive_done}
use Rattle.pkt_codec.specs.Room.{AreAsLarge}
use Rattle.act_exec.specs.Marks.{effects}
use Rattle.act_exec.proofs.running.run_primitives.Given as goal

abbrev pub invariant-loop-primitive : goal.invariant-loop-primitive
invariant-loop-primitive l = record {
  done : effects l.store l.marks ≡ fold (primitive_done l.program l.args) (effects l.initial.store l.initial.marks) (take l.primitive-index l.action.primitives);
  as_large : AreAsLarge l.initial.store l.store;
  counted : length l.marks.counted ≤ length l.initial.marks.counted + l.primitive-index;
}
