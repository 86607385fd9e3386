use Rattle.std.proofs.Common.{rules}
use Rattle.wire_fields.specs.Field.{field_of}
use Rattle.wire_messages.proofs.Asking.{packed_asks}
use Rattle.wire_messages.proofs.steps.push_numbers.Goals as goal

pub returns-in-Bytes-clause-memory : goal.returns-in-Bytes-clause-memory
returns-in-Bytes-clause-memory c = λ e. packed_asks c.args.number (field_of c.args.field) c.in-Bytes.bytes.now (search rules) (search rules) (c.push_packed.ensures.memory e)
