use Rattle.std.proofs.Common.{◌≡◌, sym, ap}
use Rattle.wire_messages.specs.Written.{Uint32, Uint64, unless_zero}
use Rattle.wire_messages.proofs.WrittenBytes.{same_bytes}
use Rattle.wire_messages.proofs.write.uint32.Goals as goal

pub returns-clause-ok : goal.returns-clause-ok
returns-clause-ok c =
    let e : c.args.value ≡ c.from.result = sym c.from.ensures in
    rw (same_bytes c.args.number (Uint32 c.args.value) (Uint64 c.from.result) (ap unless_zero e)) c.unless_zero.ensures.ok
