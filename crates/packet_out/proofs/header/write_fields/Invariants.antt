use Rattle.std.proofs.Common.{◌≡◌, ◌<◌, ℕ, length, get_or, take, true}
use Rattle.std.specs.List.{sum_by}
use Rattle.canon_bytes.specs.Bits.{bits}
use Rattle.packet_out.specs.Given.{are_given, header_bits}
use Rattle.packet_out.proofs.header.write_fields.Given as goal

abbrev pub invariant-loop-field : goal.invariant-loop-field
invariant-loop-field l = record {
  bit : l.bit ≡ sum_by (λ f. f.bitwidth) (take l.field-index l.fields);
  as_long : length l.header ≡ length l.initial.header;
  bytes : (i : ℕ) → get_or l.header i 0 < 256;
  given : are_given (take l.field-index l.fields) l.metadata ≡ true;
  written : take l.bit (bits l.header) ≡ header_bits (take l.field-index l.fields) l.metadata;
}
