use Rattle.std.proofs.Common.{◌≡◌, ◌+◌, length, take, sum}
use Rattle.std.specs.List.{splice}
use Rattle.canon_bytes.specs.Bits.{bits}
use Rattle.program_spec.specs.Numbers.{runs}
use Rattle.pkt_codec.proofs.fields.read_fields.Given as goal

abbrev pub invariant-loop-width : goal.invariant-loop-width
invariant-loop-width l = record {
  bit : l.bit ≡ sum (take l.width-index l.header.widths);
  index : l.index ≡ l.header.place.first + l.width-index;
  fields : l.store.fields ≡ splice l.initial.store.fields l.header.place.first (l.header.place.first + l.width-index) (runs (take l.width-index l.header.widths) (bits l.bytes));
  as_large : length l.store.fields ≡ length l.initial.store.fields;
  valid : l.store.valid ≡ l.initial.store.valid;
}
