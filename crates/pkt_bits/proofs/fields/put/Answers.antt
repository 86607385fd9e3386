use Rattle.std.proofs.Common.{◌≡◌, ℕ, ◌*◌, ◌%◌, ◌-◌, ◌/◌, ◌^◌, ◌+◌, sym, ap, subst, ◌∙◌, arith}
use Rattle.pkt_bits.proofs.Pieces.{put_piece, field_start, same_start, value_start, put_spliced}
use Rattle.pkt_bits.specs.Field.{field, SameOutside}
use Rattle.pkt_bits.proofs.fields.put.Goals as goal

pub loop-left-init : goal.loop-left-init
loop-left-init c = record {
  within = omega arith;
  few = omega arith;
  here = λ some. omega arith;
  so_far = field_start c.args.bytes.now c.args.bit c.args.width ∙ sym (value_start c.args.value c.args.width c.requires.fits);
  others = same_start c.args.bytes.now c.args.bit c.args.width;
}

pub loop-left-preserved : goal.loop-left-preserved
loop-left-preserved c =
    let l = c.loop-left in
    let size = c.min-size.result in
    let here : l.place * 8 + l.offset ≡ c.args.bit + (c.args.width - l.left) = l.invariant.here (omega arith) in
    let number : field c.put_short-in-loop-left.new.bytes (c.args.bit + (c.args.width - l.left)) size ≡ c.low_bits-part.result =
    ap (λ x. field c.put_short-in-loop-left.new.bytes x size) (sym here) ∙ c.put_short-in-loop-left.ensures.number in
    let Same : ℕ → Type 0 = λ x. SameOutside l.bytes c.put_short-in-loop-left.new.bytes x size in
    let turn = put_piece c.args.bytes.now l.bytes c.put_short-in-loop-left.new.bytes c.args.bit c.args.width l.left size c.args.value c.low_bits-part.result
    (omega (arith, c.min-size.ensures)) (omega arith) (omega (arith, c.requires.in_range, l.invariant.others.as_long))
    c.low_bits-part.ensures.number number (subst Same here c.put_short-in-loop-left.ensures.others) l.invariant.so_far l.invariant.others in
    record {
      within = omega arith;
      few = omega arith;
      here = λ some. omega (arith, l.invariant.here, c.min-size.ensures);
      so_far = turn.0;
      others = turn.1;
    }

pub returns-clause-spliced : goal.returns-clause-spliced
returns-clause-spliced c =
    let l = c.loop-left in
    let done : l.left ≡ 0 = omega arith in
    let whole : c.args.width - l.left ≡ c.args.width = omega arith in
    let value : c.args.value / 2 ^ l.left ≡ c.args.value = ap (λ k. c.args.value / 2 ^ k) done ∙ omega arith in
    let number : field l.bytes c.args.bit c.args.width ≡ c.args.value = sym (ap (field l.bytes c.args.bit) whole) ∙ l.invariant.so_far ∙ value in
    let Same : ℕ → Type 0 = λ n. SameOutside c.args.bytes.now l.bytes c.args.bit n in
    put_spliced c.args.bytes.now l.bytes c.args.bit c.args.width c.args.value (omega (arith, c.requires.in_range)) number (subst Same whole l.invariant.others)

pub returns-then-offset-width-le64-clause-spliced : goal.returns-then-offset-width-le64-clause-spliced
returns-then-offset-width-le64-clause-spliced c =
    let here : c.args.bit / 8 * 8 + c.args.bit % 8 ≡ c.args.bit = omega arith in
    let new = c.put_short.new.bytes in
    let Same : ℕ → Type 0 = λ x. SameOutside c.args.bytes.now new x c.args.width in
    put_spliced c.args.bytes.now new c.args.bit c.args.width c.args.value (omega (arith, c.requires.in_range))
    (ap (λ x. field new x c.args.width) (sym here) ∙ c.put_short.ensures.number) (subst Same here c.put_short.ensures.others)
