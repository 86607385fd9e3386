use Rattle.std.proofs.Common.{refl}
use Rattle.wire_messages.specs.Written.{ByteString, Text}
use Rattle.wire_messages.proofs.WrittenBytes.{same_bytes}
use Rattle.wire_messages.proofs.write.text.Goals as goal

pub returns-clause-ok : goal.returns-clause-ok
returns-clause-ok c = rw (same_bytes c.args.number (Text c.args.value.now) (ByteString c.args.value.now) refl, ← c.as_bytes.ensures.value) c.bytes.ensures.ok
