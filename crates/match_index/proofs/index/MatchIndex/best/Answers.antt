use Rattle.std.proofs.Common.{List, ap, ◌∙◌}
use Rattle.match_index.specs.declared.shapes.Shape.{Shape}
use Rattle.match_index.specs.Scan.{best_of_shapes}
use Rattle.match_index.proofs.Bests.{found_by_key}
use Rattle.match_index.proofs.index.MatchIndex.best.Goals as goal

pub returns : goal.returns
returns c =
    c.best_of_shapes.ensures ∙ ap (λ (shapes : List Shape). best_of_shapes c.args.table c.args.key.now c.args.entries.now shapes) c.deref.ensures.value
    ∙ found_by_key c.args.table c.args.key.now c.args.entries.now c.args.self.now.shapes.items c.requires.order c.requires.covered
