use Rattle.std.proofs.Common.{arith}
use Rattle.std.proofs.lemmas.Result.{err_from_is_err_and}
use Rattle.wire_fields.proofs.Digits.{unit_fits, digit_fits, no_byte, is_last, goes_on, is_tenth, is_long}
use Rattle.wire_fields.proofs.reading.varint.Goals as goal

pub returns-in_err-digit : goal.returns-in_err-digit
returns-in_err-digit c =
    let p = err_from_is_err_and c.from_residual.result c.from_residual.ensures.1 in
    rw (p.1, p.2) (no_byte _ _ _ _ _ _ c.loop.invariant c.in_err-digit.ensures)

pub overflow_mul-value : goal.overflow_mul-value
overflow_mul-value c =
    let below = digit_fits c.loop.value c.loop.unit c.from.result c.loop.invariant.below (omega arith) in
    omega (arith, unit_fits _ _ _ _ _ (omega arith) c.loop.invariant)

pub overflow_add-value : goal.overflow_add-value
overflow_add-value c =
    let below = digit_fits c.loop.value c.loop.unit c.from.result c.loop.invariant.below (omega arith) in
    omega (arith, unit_fits _ _ _ _ _ (omega arith) c.loop.invariant)

pub returns-then-digit-lt128 : goal.returns-then-digit-lt128
returns-then-digit-lt128 c = is_last _ _ _ _ _ _ _ _ (omega arith) c.loop.invariant c.in_ok-digit.ensures (omega arith) c.from.ensures

pub overflow_mul-unit : goal.overflow_mul-unit
overflow_mul-unit c = omega (arith, unit_fits _ _ _ _ _ (omega arith) c.loop.invariant)

pub loop-preserved : goal.loop-preserved
loop-preserved c =
    goes_on _ _ _ _ _ _ _ _ _ (omega arith) c.loop.invariant c.in_ok-digit.ensures (omega arith) c.from.ensures

pub returns-in_err-last : goal.returns-in_err-last
returns-in_err-last c =
    let p = err_from_is_err_and c.from_residual-in_err-last.result c.from_residual-in_err-last.ensures.1 in
    rw (p.1, p.2) (no_byte _ _ _ _ _ _ c.loop.invariant c.in_err-last.ensures)

pub returns-then-last-gt-MAX_TENTH : goal.returns-then-last-gt-MAX_TENTH
returns-then-last-gt-MAX_TENTH c = is_long _ _ _ _ _ _ _ (omega arith) c.loop.invariant c.in_ok-last.ensures (omega arith)

pub returns : goal.returns
returns c = rw c.from-2.ensures (is_tenth _ _ _ _ _ _ _ (omega arith) c.loop.invariant c.in_ok-last.ensures (omega arith))
