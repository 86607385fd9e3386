use Rattle.std.proofs.Common.{refl}
use Rattle.wire_fields.specs.Fields.{Varint}
use Rattle.wire_messages.specs.Written.{ChosenUint32}
use Rattle.wire_messages.proofs.WrittenBytes.{one_field}
use Rattle.wire_messages.proofs.write.chosen_uint32.Goals as goal

pub returns-clause-ok : goal.returns-clause-ok
returns-clause-ok c = rw (one_field c.args.number (ChosenUint32 c.args.value) (Varint c.args.value) refl, ← c.from.ensures) c.varint.ensures.ok
