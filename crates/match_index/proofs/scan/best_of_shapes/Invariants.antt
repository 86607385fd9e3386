use Rattle.std.proofs.Common.{◌≡◌, take}
use Rattle.std.specs.Option.{option_map}
use Rattle.match_index.specs.Scan.{best_of_shapes}
use Rattle.match_index.proofs.scan.best_of_shapes.Given as goal

abbrev pub invariant-loop-shape : goal.invariant-loop-shape
invariant-loop-shape l = option_map (λ entry. entry.now) l.found ≡ best_of_shapes l.table l.key l.entries (take l.shape-index l.shapes)
