use Rattle.std.proofs.Common.{◌-◌}
use Rattle.wire_fields.specs.Reading.{varint_at}
use Rattle.wire_fields.proofs.Digits.{IsPart}
use Rattle.wire_fields.proofs.reading.varint.Given as goal

abbrev pub invariant-loop : goal.invariant-loop
invariant-loop l = IsPart l.value l.unit (9 - l.counter) l.rest (varint_at l.bytes)
