use Rattle.std.proofs.Common.{refl}
use Rattle.wire_messages.specs.Written.{ChosenBytes}
use Rattle.wire_fields.specs.Fields.{Bytes}
use Rattle.wire_messages.proofs.WrittenBytes.{one_field}
use Rattle.wire_messages.proofs.write.chosen_bytes.Goals as goal

pub returns-clause-ok : goal.returns-clause-ok
returns-clause-ok c = rw (one_field c.args.number (ChosenBytes c.args.value.now) (Bytes c.args.value.now) refl) c.bytes.ensures.ok
