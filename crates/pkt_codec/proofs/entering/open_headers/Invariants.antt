use Rattle.std.proofs.Common.{◌≡◌, ◌++◌, ◌-◌, false, length, map, replicate, take}
use Rattle.pkt_codec.proofs.entering.open_headers.Given as goal

abbrev pub invariant-loop-header : goal.invariant-loop-header
invariant-loop-header l = record {
  fields : l.store.fields ≡ replicate l.program.fields 0;
  as_large : length l.store.valid ≡ length l.program.headers;
  valid : l.store.valid ≡ map (λ header. header.metadata) (take l.header-index l.program.headers) ++ replicate (length l.program.headers - l.header-index) false;
}
