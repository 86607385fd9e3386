use Rattle.std.proofs.Common.{◌≡◌, ◌%◌, take, length}
use Rattle.std.specs.List.{flat_map}
use Rattle.program_spec.specs.Checksums.{input_bits}
use Rattle.pkt_codec.specs.Sums.{weighed, IsOnesSum}
use Rattle.pkt_codec.proofs.ones.csum16.Given as goal

abbrev pub invariant-loop-taken : goal.invariant-loop-taken
invariant-loop-taken l = record {
  so_far : IsOnesSum l.sum (weighed 0 (flat_map (input_bits l.store) (take l.taken-index l.input)));
  offset : l.offset ≡ length (flat_map (input_bits l.store) (take l.taken-index l.input)) % 16;
}
