use Rattle.std.proofs.Common.{None, refl, sym}
use Rattle.std.proofs.lemmas.List.{append-nil}
use Rattle.wire_messages.specs.Written.{Message}
use Rattle.wire_messages.proofs.WrittenBytes.{left_out}
use Rattle.p4v1_wire.proofs.writing.optional.Goals as goal

pub returns-in-None-clause-ok : goal.returns-in-None-clause-ok
returns-in-None-clause-ok g c = rw (c.in-None.is, left_out c.args.number (Message None) refl) (sym (append-nil _))
