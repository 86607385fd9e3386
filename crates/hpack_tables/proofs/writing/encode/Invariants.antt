use Rattle.std.proofs.Common.{◌≡◌, take}
use Rattle.hpack_tables.specs.Writing.{block_bytes}
use Rattle.hpack_tables.proofs.writing.encode.Given as goal

abbrev pub invariant-loop-header : goal.invariant-loop-header
invariant-loop-header l = l.bytes.items ≡ block_bytes (take l.header-index l.headers)
