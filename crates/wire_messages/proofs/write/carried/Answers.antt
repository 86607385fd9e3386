use Rattle.std.proofs.Common.{refl, sym, Some, None}
use Rattle.std.proofs.lemmas.List.{append-nil}
use Rattle.wire_messages.specs.Written.{ByteString, Carried}
use Rattle.wire_messages.proofs.WrittenBytes.{same_bytes, left_out}
use Rattle.wire_messages.proofs.write.carried.Goals as goal

pub returns-in-Some-clause-ok : goal.returns-in-Some-clause-ok
returns-in-Some-clause-ok c =
    rw (c.in-Some.is, same_bytes c.args.number (Carried (Some c.in-Some.message.now)) (ByteString c.in-Some.message.now) refl) c.bytes.ensures.ok

pub returns-in-None-clause-ok : goal.returns-in-None-clause-ok
returns-in-None-clause-ok c = rw (c.in-None.is, left_out c.args.number (Carried None) refl) (sym (append-nil _))
