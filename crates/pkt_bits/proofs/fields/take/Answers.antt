use Rattle.std.proofs.Common.{◌≡◌, ◌+◌, ◌*◌, ◌%◌, ◌/◌, ◌-◌, ◌^◌, sym, ap, ◌∙◌, arith}
use Rattle.std.proofs.Math.Facts.{Fits-of_lt}
use Rattle.pkt_bits.specs.Field.{field}
use Rattle.pkt_bits.proofs.Pieces.{take_turn, field-lt, field_start, field_fits}
use Rattle.pkt_bits.proofs.fields.take.Goals as goal

pub returns-then-offset-width-le64-clause-fits : goal.returns-then-offset-width-le64-clause-fits
returns-then-offset-width-le64-clause-fits c =
    omega (arith, c.from.ensures, c.take_short.ensures, field-lt c.args.bytes.now (c.args.bit / 8 * 8 + c.args.bit % 8) c.args.width)

pub loop-left-init : goal.loop-left-init
loop-left-init c = record {
  within = omega arith;
  few = omega arith;
  here = λ some. omega arith;
  so_far = sym (field_start c.args.bytes.now c.args.bit c.args.width);
}

-- what was read with one piece more
more : (c : goal.After-from-in-loop-left) → c.loop-left.value * 2 ^ c.min-size.result % 340282366920938463463374607431768211456 + c.from-in-loop-left.result
    ≡ field c.args.bytes.now c.args.bit (c.args.width - (c.loop-left.left - c.min-size.result))
more c =
    let l = c.loop-left in
    let size = c.min-size.result in
    let here : l.place * 8 + l.offset ≡ c.args.bit + (c.args.width - l.left) = l.invariant.here (omega arith) in
    ap (λ x. x * 2 ^ size % 340282366920938463463374607431768211456 + c.from-in-loop-left.result) l.invariant.so_far
    ∙ take_turn c.args.bytes.now c.args.bit c.args.width l.left size c.from-in-loop-left.result
    (omega (arith, c.min-size.ensures)) (omega arith) c.requires.width c.requires.in_range
    (c.from-in-loop-left.ensures ∙ c.take_short-in-loop-left.ensures ∙ ap (λ x. field c.args.bytes.now x size) here)

pub overflow_add-value : goal.overflow_add-value
overflow_add-value c = Fits-of_lt (rw (more c) (field_fits c.args.bytes.now c.args.bit (c.args.width - (c.loop-left.left - c.min-size.result)) (omega arith)))

pub loop-left-preserved : goal.loop-left-preserved
loop-left-preserved c = record {
  within = omega arith;
  few = omega arith;
  here = λ some. omega (arith, c.loop-left.invariant.here, c.min-size.ensures);
  so_far = more c;
}

pub returns-clause-fits : goal.returns-clause-fits
returns-clause-fits c =
    let whole : c.args.width - c.loop-left.left ≡ c.args.width = omega arith in
    let number = c.loop-left.invariant.so_far ∙ ap (field c.args.bytes.now c.args.bit) whole in
    omega (arith, number, field-lt c.args.bytes.now c.args.bit c.args.width)
