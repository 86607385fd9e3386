use Rattle.std.proofs.Common.{◌^◌, ◌≤◌, arith, sym, refl, ap, ◌∙◌, Ok}
use Rattle.std.proofs.lemmas.Bool.{eqb-true, eqb-false}
use Rattle.canon_bytes.specs.Bits.{bits, num}
use Rattle.canon_bytes.proofs.Numbers.{num_none, num_more}
use Rattle.canon_bytes.proofs.Progress.{max_is, none_fits, is_too_wide, number_is, not_accepted, is_accepted}
use Rattle.canon_bytes.proofs.reading.read.Goals as goal

pub returns-then-is_empty-clause-too_wide : goal.returns-then-is_empty-clause-too_wide
returns-then-is_empty-clause-too_wide c =
    (λ e. absurd cc, λ wide. absurd (none_fits _ _ (eqb-true _ _ (sym c.is_empty.ensures ∙ c.if-is_empty.true)) wide))

pub loop-byte-init : goal.loop-byte-init
loop-byte-init c = sym num_none

pub returns-then-value-max-clause-accepted : goal.returns-then-value-max-clause-accepted
returns-then-value-max-clause-accepted c =
    let wide = is_too_wide _ _ _ _ c.loop-byte-test.true c.requires.in_range c.loop-byte.invariant c.if-value-max.true in
    λ value is. absurd (not_accepted _ _ _ wide is)

pub returns-then-value-max-clause-too_wide : goal.returns-then-value-max-clause-too_wide
returns-then-value-max-clause-too_wide c =
    (λ e. is_too_wide _ _ _ _ c.loop-byte-test.true c.requires.in_range c.loop-byte.invariant c.if-value-max.true, λ wide. refl)

pub loop-byte-preserved : goal.loop-byte-preserved
loop-byte-preserved c = omega (arith, num_more c.args.bytes.now c.loop-byte.byte-index c.loop-byte-test.true, c.loop-byte.invariant, c.type_inv.bytes c.loop-byte.byte-index, c.from.ensures)

pub returns-then-value-max-2-clause-accepted : goal.returns-then-value-max-2-clause-accepted
returns-then-value-max-2-clause-accepted c =
    let number = number_is c.args.bytes.now _ _ (omega arith) c.loop-byte.invariant in
    let wide : 2 ^ c.args.width ≤ num (bits c.args.bytes.now) = omega (arith, max_is c.args.width c.requires.in_range) in
    λ value is. absurd (not_accepted _ _ _ wide is)

pub returns-then-value-max-2-clause-too_wide : goal.returns-then-value-max-2-clause-too_wide
returns-then-value-max-2-clause-too_wide c =
    let number = number_is c.args.bytes.now _ _ (omega arith) c.loop-byte.invariant in
    (λ e. omega (arith, max_is c.args.width c.requires.in_range), λ wide. refl)

pub returns-clause-ok : goal.returns-clause-ok
returns-clause-ok c =
    let number = number_is c.args.bytes.now _ _ (omega arith) c.loop-byte.invariant in
    is_accepted _ _ _ (eqb-false _ _ (sym c.is_empty.ensures ∙ c.if-is_empty.false)) number (omega (arith, max_is c.args.width c.requires.in_range))

pub returns-clause-accepted : goal.returns-clause-accepted
returns-clause-accepted c =
    let number = number_is c.args.bytes.now _ _ (omega arith) c.loop-byte.invariant in
    λ value is. ap (λ x. Ok x) (number ∙ sym is.value_is)

pub returns-clause-too_wide : goal.returns-clause-too_wide
returns-clause-too_wide c =
    let number = number_is c.args.bytes.now _ _ (omega arith) c.loop-byte.invariant in
    (λ e. absurd cc, λ wide. absurd (omega (arith, max_is c.args.width c.requires.in_range)))
