use Rattle.std.proofs.Common.{◌≡◌, length}
use Rattle.match_index.specs.Shapes.{AreClear, KeepsOthers}
use Rattle.match_index.proofs.shapes.lose_in_each.Given as goal

abbrev pub invariant-loop-place : goal.invariant-loop-place
invariant-loop-place l = (length l.shapes.items ≡ length l.fn.shapes.items) × AreClear l.fn.print l.fn.seq l.place l.shapes.items × KeepsOthers l.fn.shapes.items l.shapes.items l.fn.seq
