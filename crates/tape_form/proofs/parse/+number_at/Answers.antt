use Rattle.std.proofs.Common.{◌+◌, ◌-◌, ◌*◌, ◌∙◌, refl, Ok, arith, inl, inr}
use Rattle.std.proofs.lemmas.Result.{err_from_is_err_and}
use Rattle.tape_form.proofs.Numbers.{bad_then, unit_small, start_fits, number_none, number_missing, number_bad, number_goes_on}
use Rattle.tape_form.proofs.parse.+number_at.Goals as goal
use Rattle.tape_form.proofs.parse.+number_at.Goals.{then-high-start-via-then-high-start, then-high-start-via-else-high-start+then-start-unit}

pub returns-then-count-eq0-clause-gives : goal.returns-then-count-eq0-clause-gives
returns-then-count-eq0-clause-gives t c = number_none c.args.count c.args.low c.args.high c.args.bytes.now c.if-count-eq0.true

pub returns-in_default-clause-gives : goal.returns-in_default-clause-gives
returns-in_default-clause-gives t c = number_missing c.args.count c.args.low c.args.high c.args.bytes.now (omega arith) (omega arith)

pub pow-unit-requires : goal.pow-unit-requires
pow-unit-requires t c = omega (arith, unit_small (c.args.count - 1) (omega arith))

pub overflow_mul-start : goal.overflow_mul-start
overflow_mul-start t c = let u = unit_small (c.args.count - 1) (omega arith) in let f = start_fits c.from.result c.pow-unit.result (omega (arith, c.type_inv.bytes 0)) (omega arith) (omega arith) in omega (arith, f.0)

pub overflow_sub-unit : goal.overflow_sub-unit
overflow_sub-unit t c = omega (arith, unit_small (c.args.count - 1) (omega arith))

pub overflow_add-start : goal.overflow_add-start
overflow_add-start t c = let u = unit_small (c.args.count - 1) (omega arith) in let f = start_fits c.from.result c.pow-unit.result (omega (arith, c.type_inv.bytes 0)) (omega arith) (omega arith) in omega (arith, f.1)

pub returns-then-high-start-clause-gives : goal.returns-then-high-start-clause-gives
returns-then-high-start-clause-gives t c =
    elim c.then-high-start.branch [
      | then-high-start-via-then-high-start w ↦
          number_bad c.args.count c.args.low c.args.high c.from.result c.pow-unit.result c.args.bytes.now (omega arith) c.in-len1-up.len_at_least c.from.ensures c.pow-unit.ensures (inl w.if-high-start.true)
      | then-high-start-via-else-high-start+then-start-unit w ↦
          number_bad c.args.count c.args.low c.args.high c.from.result c.pow-unit.result c.args.bytes.now (omega arith) c.in-len1-up.len_at_least c.from.ensures c.pow-unit.ensures (inr w.if-start-unit.true)
    ]

pub overflow_sub-unit-2 : goal.overflow_sub-unit-2
overflow_sub-unit-2 t c = omega (arith, unit_small (c.args.count - 1) (omega arith))

pub number_at-requires : goal.number_at-requires
number_at-requires t c =
    let u = unit_small (c.args.count - 1) (omega arith) in
    (omega arith, (omega arith, (omega arith, omega arith)))

pub returns-in_err-digits-clause-gives : goal.returns-in_err-digits-clause-gives
returns-in_err-digits-clause-gives t c =
    let p = err_from_is_err_and c.from_residual.result c.from_residual.ensures.1 in
    rw (p.1, p.2) (bad_then c.in_err-digits.field-0.0.left _ (λ x. Ok (c.from.result * c.pow-unit.result + x.0, x.1)) _
    (number_goes_on c.args.count c.args.low c.args.high c.from.result c.pow-unit.result c.args.bytes.now (omega arith) c.in-len1-up.len_at_least c.from.ensures c.pow-unit.ensures c.if-high-start.false c.if-start-unit.false)
    (rw (c.saturating_sub.ensures, c.min.ensures) at c.in_err-digits.ensures.gives))

pub returns-clause-gives : goal.returns-clause-gives
returns-clause-gives t c =
    number_goes_on c.args.count c.args.low c.args.high c.from.result c.pow-unit.result c.args.bytes.now (omega arith) c.in-len1-up.len_at_least c.from.ensures c.pow-unit.ensures c.if-high-start.false c.if-start-unit.false
    ∙ rw (← c.saturating_sub.ensures, ← c.min.ensures, c.in_ok-digits.ensures.gives) refl
