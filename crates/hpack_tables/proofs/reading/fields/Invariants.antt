use Rattle.std.proofs.Common.{◌-◌, ◌≡◌, length}
use Rattle.hpack_tables.specs.Blocks.{fields_in}
use Rattle.hpack_tables.proofs.BlockSteps.{onto}
use Rattle.hpack_tables.proofs.reading.fields.Given as goal

abbrev pub invariant-loop : goal.invariant-loop
invariant-loop l = onto l.headers (fields_in (l.end - l.counter) l.table l.room l.rest) ≡ fields_in (length l.bytes) l.fn.table 65536 l.bytes
