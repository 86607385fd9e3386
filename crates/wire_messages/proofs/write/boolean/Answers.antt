use Rattle.std.proofs.Common.{refl, sym}
use Rattle.std.proofs.lemmas.List.{append-nil}
use Rattle.wire_fields.specs.Fields.{Varint}
use Rattle.wire_messages.specs.Written.{Flag}
use Rattle.wire_messages.proofs.WrittenBytes.{left_out, one_field}
use Rattle.wire_messages.proofs.write.boolean.Goals as goal

pub returns-then-not-value-clause-ok : goal.returns-then-not-value-clause-ok
returns-then-not-value-clause-ok c = rw (left_out c.args.number (Flag c.args.value) (rw c.if-not-value.true refl)) (sym (append-nil _))

pub returns-clause-ok : goal.returns-clause-ok
returns-clause-ok c = rw (one_field c.args.number (Flag c.args.value) (Varint 1) (rw c.if-not-value.false refl)) c.varint.ensures.ok
