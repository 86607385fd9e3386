use Rattle.std.proofs.Common.{◌≡◌, ◌≤◌, ◌++◌, List, length, map}
use Rattle.p4_types.specs.declared.messages.Entity.{Entity}
use Rattle.switch_spec.specs.Reading.{response_bytes, chunks}
use Rattle.plane_read.specs.Answered.{messages_of}
use Rattle.plane_read.proofs.messages.messages.Given as goal

abbrev pub invariant-loop-entity : goal.invariant-loop-entity
invariant-loop-entity l = record {
  few : length l.gathered ≤ 1024;
  whole : (others : List Entity) → messages_of l.written l.gathered others ≡ map response_bytes (chunks (l.yielded ++ others));
}
