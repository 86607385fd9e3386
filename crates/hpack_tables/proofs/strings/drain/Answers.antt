use Rattle.std.proofs.Common.{◌-◌, ◌%◌, arith, refl, ap}
use Rattle.std.proofs.lemmas.Nat.{one_shl}
use Rattle.hpack_tables.proofs.Draining.{goes_on}
use Rattle.hpack_tables.proofs.strings.drain.Goals as goal

pub overflow_cast-symbol : goal.overflow_cast-symbol
overflow_cast-symbol c = omega (arith, c.in-Some.ensures.known)

pub loop-symbol-preserved : goal.loop-symbol-preserved
loop-symbol-preserved c =
    goes_on _ _ _ _ _ _ _ c.in-Some.length _ _ _ c.loop-symbol.invariant c.in-Some.ensures (omega (arith, c.in-Some.ensures.known)) c.in_ok-push.ensures.ok refl
    (ap (λ k. c.loop-symbol.left.number % k) (one_shl (c.loop-symbol.left.count - c.in-Some.length) 64 (omega (arith, c.loop-symbol.invariant.few))))
