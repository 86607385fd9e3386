use Rattle.std.proofs.Common.{ℤ, ◌∙◌, sym, ap, rules}
use Rattle.std.proofs.lemmas.Int.{to_z-of_z}
use mir.Val.{SFits, to_z, of_z}
use mir.Syntax.{w32, w64}
use Rattle.wire_messages.specs.Written.{Int32, Int64, two_complement, unless_zero}
use Rattle.wire_messages.proofs.WrittenBytes.{same_bytes}
use Rattle.wire_messages.proofs.write.int32.Goals as goal

pub returns-clause-ok : goal.returns-clause-ok
returns-clause-ok c =
    let fits : SFits w64 c.from.result = search rules in
    let wider : ℤ = to_z w64 (of_z w64 c.from.result) in
    let e = sym (to_z-of_z w64 c.from.result fits ∙ c.from.ensures ∙ to_z-of_z w32 c.args.value c.ranges.value) in
    rw (same_bytes c.args.number (Int32 c.args.value) (Int64 wider) (ap (λ z. unless_zero (two_complement z)) e)) c.int64.ensures.ok
