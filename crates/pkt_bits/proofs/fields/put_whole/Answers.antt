use Rattle.std.proofs.Common.{◌*◌, ◌-◌, ◌/◌, ◌^◌, sym, ◌∙◌, arith, lit≤}
use Rattle.std.proofs.lemmas.Nat.{and_mask}
use Rattle.std.specs.Int.Bits.{bit_and}
use Rattle.pkt_bits.proofs.Pieces.{put_turn, field_start, same_start, value_start}
use Rattle.pkt_bits.proofs.fields.put_whole.Goals as goal

pub loop-left-init : goal.loop-left-init
loop-left-init c = record {
  whole = omega arith;
  few = omega arith;
  here = λ some. omega arith;
  so_far = field_start c.args.bytes.now (c.args.place * 8) c.args.width ∙ sym (value_start c.args.value c.args.width c.requires.fits);
  others = same_start c.args.bytes.now (c.args.place * 8) c.args.width;
}

pub loop-left-preserved : goal.loop-left-preserved
loop-left-preserved c =
    let l = c.loop-left in
    let part = bit_and (c.args.value / 2 ^ (l.left - 8)) 255 in
    let turn = put_turn c.args.bytes.now l.bytes l.next 0 (c.args.place * 8) c.args.width l.left 8 c.args.value part c.with_chunk.result
    (lit≤ tt) (lit≤ tt) (omega arith) (omega arith) (omega (arith, l.invariant.here)) (omega (arith, c.requires.in_range, l.invariant.others.as_long))
    (and_mask (c.args.value / 2 ^ (l.left - 8)) 8) c.with_chunk.ensures l.invariant.so_far l.invariant.others in
    record {
      whole = omega arith;
      few = omega arith;
      here = λ some. omega (arith, l.invariant.here);
      so_far = turn.0;
      others = turn.1;
    }
