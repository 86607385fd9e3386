use Rattle.std.proofs.Common.{◌≡◌, take, slice_get}
use Rattle.std.specs.List.{flat_map}
use Rattle.canon_bytes.specs.Bits.{bits}
use Rattle.program_spec.specs.Deparsing.{header_bits}
use Rattle.pkt_codec.proofs.deparsing.write_headers.Given as goal

abbrev pub invariant-loop-place : goal.invariant-loop-place
invariant-loop-place l = bits l.out ≡ flat_map (λ place. header_bits l.store (slice_get l.program.headers place)) (take l.place-index l.program.deparser)
