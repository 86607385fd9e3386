use Rattle.std.proofs.Common.{◌-◌, ◌≡◌, length}
use Rattle.hpack_tables.specs.Blocks.{updates_in}
use Rattle.hpack_tables.proofs.reading.updates.Given as goal

abbrev pub invariant-loop : goal.invariant-loop
invariant-loop l = updates_in (l.end - l.counter) l.table l.rest ≡ updates_in (length l.bytes) l.fn.table l.bytes
