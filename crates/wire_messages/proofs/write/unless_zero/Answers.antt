use Rattle.std.proofs.Common.{sym}
use Rattle.std.proofs.lemmas.List.{append-nil}
use Rattle.wire_messages.proofs.WrittenBytes.{zero_is, number_is}
use Rattle.wire_messages.proofs.write.unless_zero.Goals as goal

pub returns-then-value-eq0-clause-ok : goal.returns-then-value-eq0-clause-ok
returns-then-value-eq0-clause-ok c = rw (zero_is c.args.number c.args.value c.if-value-eq0.true) (sym (append-nil _))

pub returns-clause-ok : goal.returns-clause-ok
returns-clause-ok c = rw (number_is c.args.number c.args.value c.if-value-eq0.false) c.varint.ensures.ok
