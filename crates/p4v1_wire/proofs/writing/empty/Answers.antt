use Rattle.std.proofs.Common.{Some, None, [], refl, sym}
use Rattle.std.proofs.lemmas.List.{append-nil}
use Rattle.wire_fields.specs.Fields.{Bytes}
use Rattle.wire_messages.specs.Written.{Present}
use Rattle.wire_messages.proofs.WrittenBytes.{left_out, one_field}
use Rattle.p4v1_wire.proofs.writing.empty.Goals as goal

pub returns-then-is_given : goal.returns-then-is_given
returns-then-is_given c = rw (c.if-is_given.true, one_field c.args.number (Present (Some [])) (Bytes []) refl) c.bytes.ensures.ok

pub returns-else-is_given : goal.returns-else-is_given
returns-else-is_given c = rw (c.if-is_given.false, left_out c.args.number (Present None) refl) (sym (append-nil _))
