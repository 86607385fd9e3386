use Rattle.std.proofs.Common.{Option, None, take, sym, ap, ◌∙◌, arith}
use Rattle.std.proofs.lemmas.List.Sums.{fold_more}
use Rattle.p4_types.specs.declared.table.Entry.{Entry}
use Rattle.match_index.specs.declared.shapes.Shape.{Shape}
use Rattle.match_index.specs.Scan.{best_of_shape, best_of_shapes}
use Rattle.match_index.proofs.scan.best_of_shapes.Goals as goal

pub loop-shape-preserved : goal.loop-shape-preserved
loop-shape-preserved c =
    c.best_of_shape-found.ensures
    ∙ ap (λ (so_far : Option Entry). best_of_shape c.args.table c.args.key.now c.args.entries.now so_far c.shape-item.result) c.loop-shape.invariant
    ∙ ap (λ (shape : Shape). best_of_shape c.args.table c.args.key.now c.args.entries.now (best_of_shapes c.args.table c.args.key.now c.args.entries.now (take c.loop-shape.shape-index c.args.shapes.now)) shape) c.shape-item.is
    ∙ sym (fold_more (best_of_shape c.args.table c.args.key.now c.args.entries.now) None c.args.shapes.now c.loop-shape.shape-index c.shape-item.result (omega arith))
