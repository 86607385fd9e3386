use Rattle.std.proofs.Common.{◌<◌, ◌^◌, ap, sym, arith}
use Rattle.std.proofs.lemmas.List.Elements.{All-from_get_or}
use Rattle.wire_messages.specs.Written.{ByteString, Packed, unless_empty}
use Rattle.wire_messages.proofs.WrittenBytes.{same_bytes}
use Rattle.wire_messages.proofs.write.packed.Goals as goal

pub returns-clause-ok : goal.returns-clause-ok
returns-clause-ok c =
    rw (same_bytes c.args.number (Packed c.args.values.now) (ByteString c.in_ok-inside.inside.items) (ap unless_empty (sym c.in_ok-inside.ensures)), ← c.as_slice.ensures.value) c.bytes.ensures.ok

pub returns-clause-fits : goal.returns-clause-fits
returns-clause-fits c = All-from_get_or (λ n. n < 2 ^ 32) c.args.values.now 0 (λ i h. omega (arith, c.type_inv.values i))
