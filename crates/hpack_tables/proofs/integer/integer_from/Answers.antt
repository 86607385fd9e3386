use Rattle.std.proofs.Common.{arith}
use Rattle.std.proofs.lemmas.Result.{err_from_is_err_and}
use Rattle.hpack_tables.proofs.IntegerSteps.{no_byte, is_large, is_last, goes_on, goes_on_past}
use Rattle.hpack_tables.proofs.integer.integer_from.Goals as goal

pub returns-in_err-byte : goal.returns-in_err-byte
returns-in_err-byte c =
    let p = err_from_is_err_and c.from_residual.result c.from_residual.ensures.1 in
    rw (p.1, p.2) (no_byte _ _ _ _ _ _ c.in_err-byte.ensures c.loop-byte.invariant)

pub returns-then-value-from : goal.returns-then-value-from
returns-then-value-from c = is_large _ _ _ _ _ _ _ _ c.in_ok-byte.ensures c.from.ensures (omega arith) c.loop-byte.invariant

pub returns-then-byte-lt128 : goal.returns-then-byte-lt128
returns-then-byte-lt128 c = is_last _ _ _ _ _ _ _ _ c.in_ok-byte.ensures c.from.ensures (omega arith) (omega arith) c.loop-byte.invariant

pub loop-byte-preserved-then-unit-lt-PAST_ALL : goal.loop-byte-preserved-then-unit-lt-PAST_ALL
loop-byte-preserved-then-unit-lt-PAST_ALL c = goes_on _ _ _ _ _ _ _ _ c.in_ok-byte.ensures c.from.ensures (omega arith) (omega arith) (omega arith) c.loop-byte.invariant

pub loop-byte-preserved : goal.loop-byte-preserved
loop-byte-preserved c = goes_on_past _ _ _ _ _ _ _ _ c.in_ok-byte.ensures c.from.ensures (omega arith) (omega arith) (omega arith) c.loop-byte.invariant
