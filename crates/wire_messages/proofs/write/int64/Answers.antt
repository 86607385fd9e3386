use Rattle.std.proofs.Common.{◌∙◌, sym, ap}
use Rattle.std.proofs.lemmas.Int.{to_z-of_z}
use mir.Syntax.{w64}
use Rattle.wire_messages.specs.Written.{Uint64, Int64, two_complement, unless_zero}
use Rattle.wire_messages.proofs.WrittenBytes.{same_bytes}
use Rattle.wire_messages.proofs.write.int64.Goals as goal

pub returns-clause-ok : goal.returns-clause-ok
returns-clause-ok c =
    let e = sym (c.two_complement.ensures ∙ ap two_complement (to_z-of_z w64 c.args.value c.ranges.value)) in
    rw (same_bytes c.args.number (Int64 c.args.value) (Uint64 c.two_complement.result) (ap unless_zero e)) c.unless_zero.ensures.ok
