use Rattle.std.proofs.Common.{◌<◌, length, refl, arith, ◌∙◌}
use Rattle.std.proofs.lemmas.List.{length-set}
use Rattle.match_index.specs.declared.shapes.Shape.{Shape}
use Rattle.match_index.proofs.Rows.{clear_set, lost_alike, lost_at}
use Rattle.match_index.proofs.shapes.lose_in_each.Goals as goal

pub loop-place-preserved : goal.loop-place-preserved
loop-place-preserved c =
    let shapes = c.loop-place.shapes.items in
    let place = c.loop-place.place in
    let x : Shape = c.index_mut-shape.result.now in
    let y : Shape = record { cuts = x.cuts; bins = c.remove.new.bins } in
    let in_range : place < length shapes = omega (arith, c.loop-place-test.true, c.len-place-end.ensures, c.loop-place.invariant.0, c.args.shapes.now.ok.0) in (
      length-set shapes place y ∙ c.loop-place.invariant.0,
      clear_set shapes place y c.args.print c.args.seq in_range c.loop-place.invariant.1 (lost_at x y c.args.print c.args.seq c.remove.ensures),
      λ others other differ has. lost_alike shapes place x y c.args.print c.args.seq in_range c.index_mut-shape.ensures.value refl c.remove.ensures others other differ (c.loop-place.invariant.2 others other differ has),
    )
