use Rattle.std.proofs.Common.{◌≡◌, ◌≤◌, ◌++◌, length, map, take, vec_capacity}
use Rattle.std.specs.List.{sum_by}
use Rattle.canon_bytes.specs.Bits.{bits}
use Rattle.packet_spec.specs.Meaning.{metadata_of, widths_of}
use Rattle.program_spec.specs.Numbers.{runs}
use Rattle.pkt_worker.specs.Verdicts.{carried, numbers_room}
use Rattle.pkt_worker.proofs.HeaderFields.{left_of}
use Rattle.pkt_worker.proofs.metadata.read_metadata.Given as goal

abbrev pub invariant-loop-field : goal.invariant-loop-field
invariant-loop-field l = record {
  read : map carried l.metadata.items ++ left_of l.fields l.bytes l.field-index l.bit ≡ metadata_of l.fields (runs (widths_of l.fields) (bits l.bytes));
  bit : l.bit ≡ sum_by (λ f. f.bitwidth) (take l.field-index l.fields);
  number : length l.metadata.items ≡ l.field-index;
  room : numbers_room ≤ vec_capacity l.metadata;
}
