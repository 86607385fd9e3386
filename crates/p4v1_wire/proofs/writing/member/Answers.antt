use Rattle.std.proofs.Common.{Some, refl}
use Rattle.wire_fields.specs.Fields.{Bytes}
use Rattle.wire_fields.specs.Spelling.{spelling}
use Rattle.wire_messages.specs.Written.{Present}
use Rattle.wire_messages.proofs.WrittenBytes.{one_field}
use Rattle.p4v1_wire.specs.Rows.{fields_by}
use Rattle.p4v1_wire.proofs.writing.member.Goals as goal

pub returns-clause-ok : goal.returns-clause-ok
returns-clause-ok g c =
    let message = fields_by g.M.Writable.rows c.args.message.now in
    rw (one_field c.args.number (Present (Some message)) (Bytes (spelling message)) refl, ← c.in_ok-inside.ensures.ok, ← c.as_slice.ensures) c.bytes.ensures.ok
