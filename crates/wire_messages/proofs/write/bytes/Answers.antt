use Rattle.std.proofs.Common.{sym, ◌∙◌}
use Rattle.std.proofs.lemmas.List.{append-nil}
use Rattle.std.proofs.lemmas.Bool.{eqb-false, eqb-true}
use Rattle.wire_messages.proofs.WrittenBytes.{empty_is, bytes_is}
use Rattle.wire_messages.proofs.write.bytes.Goals as goal

pub returns-then-is_empty-clause-ok : goal.returns-then-is_empty-clause-ok
returns-then-is_empty-clause-ok c = rw (empty_is c.args.number c.args.value.now (eqb-true _ _ (sym c.is_empty.ensures ∙ c.if-is_empty.true))) (sym (append-nil _))

pub returns-clause-ok : goal.returns-clause-ok
returns-clause-ok c = rw (bytes_is c.args.number c.args.value.now (eqb-false _ _ (sym c.is_empty.ensures ∙ c.if-is_empty.false))) c.bytes.ensures.ok
