use Rattle.std.proofs.Common.{◌+◌, ◌*◌, ◌%◌, ◌-◌, ◌/◌, ◌^◌, sym, ◌∙◌, arith}
use Rattle.std.specs.Int.Bits.{bit_and}
use Rattle.pkt_bits.proofs.Pieces.{put_turn, part_is, field_start, same_start, value_start}
use Rattle.pkt_bits.proofs.fields.put_short.Goals as goal

pub loop-left-init : goal.loop-left-init
loop-left-init c = record {
  within = omega arith;
  few = omega arith;
  here = λ some. omega arith;
  so_far = field_start c.args.bytes.now (c.args.place * 8 + c.args.offset) c.args.width ∙ sym (value_start c.args.value c.args.width c.requires.fits);
  others = same_start c.args.bytes.now (c.args.place * 8 + c.args.offset) c.args.width;
}

pub loop-left-preserved : goal.loop-left-preserved
loop-left-preserved c =
    let l = c.loop-left in
    let size = c.min-size.result in
    let part = bit_and (c.args.value / 2 ^ (l.left - size)) (1 * 2 ^ size % 18446744073709551616 - 1) in
    let turn = put_turn c.args.bytes.now l.bytes l.next l.behind (c.args.place * 8 + c.args.offset) c.args.width l.left size c.args.value part c.with_chunk.result
    (omega (arith, c.min-size.ensures)) (omega (arith, c.min-size.ensures)) (omega (arith, c.min-size.ensures)) (omega arith)
    (l.invariant.here (omega arith)) (omega (arith, c.requires.in_range, l.invariant.others.as_long))
    (part_is (c.args.value / 2 ^ (l.left - size)) size 64 (omega (arith, c.min-size.ensures))) c.with_chunk.ensures l.invariant.so_far l.invariant.others in
    record {
      within = omega arith;
      few = omega arith;
      here = λ some. omega (arith, l.invariant.here, c.min-size.ensures);
      so_far = turn.0;
      others = turn.1;
    }
