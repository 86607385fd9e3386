use Rattle.std.proofs.Common.{Some}
use Rattle.wire_messages.specs.Written.{ByteString, Message}
use Rattle.wire_messages.proofs.WrittenBytes.{same_bytes, message_bytes}
use Rattle.p4v1_wire.specs.Rows.{fields_by}
use Rattle.wire_fields.specs.Spelling.{spelling}
use Rattle.p4v1_wire.proofs.writing.message.Goals as goal

pub returns-clause-ok : goal.returns-clause-ok
returns-clause-ok g c =
    let message = fields_by g.M.Writable.rows c.args.message.now in
    rw (same_bytes c.args.number (Message (Some message)) (ByteString (spelling message)) (message_bytes message), ← c.in_ok-inside.ensures.ok, ← c.as_slice.ensures) c.bytes.ensures.ok
