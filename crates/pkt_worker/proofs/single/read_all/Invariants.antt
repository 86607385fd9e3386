use Rattle.std.proofs.Common.{◌≡◌, ◌≤◌, map, take, vec_capacity}
use Rattle.program_spec.specs.Stores as stores
use Rattle.pkt_worker.specs.Verdicts.{numbers_room}
use Rattle.pkt_worker.proofs.single.read_all.Given as goal

abbrev pub invariant-loop-field : goal.invariant-loop-field
invariant-loop-field l = record {
  read : l.numbers.items ≡ map (stores.read l.store) (take l.field-index l.fields);
  room : numbers_room ≤ vec_capacity l.numbers;
}
