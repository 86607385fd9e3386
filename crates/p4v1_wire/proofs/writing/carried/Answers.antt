use Rattle.std.proofs.Common.{None, refl, sym}
use Rattle.std.proofs.lemmas.List.{append-nil}
use Rattle.wire_messages.specs.Written.{Carried}
use Rattle.wire_messages.proofs.WrittenBytes.{left_out}
use Rattle.p4v1_wire.proofs.writing.carried.Goals as goal

pub returns-in-None : goal.returns-in-None
returns-in-None c = rw (c.in-None.is, left_out c.args.number (Carried None) refl) (sym (append-nil _))
