use Rattle.std.proofs.Common.{◌≡◌, take}
use Rattle.std.specs.List.{flat_map}
use Rattle.wire_fields.specs.Spelling.{varint}
use Rattle.wire_messages.proofs.write.varints.Given as goal

abbrev pub invariant-loop-value : goal.invariant-loop-value
invariant-loop-value l = l.bytes.items ≡ flat_map varint (take l.value-index l.values)
