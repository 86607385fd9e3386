use Rattle.std.proofs.Common.{length}
use Rattle.json_tree.specs.View.{items_in}
use Rattle.json_shapes.proofs.shapes.room_for.Given as goal

abbrev pub decreases-items : goal.decreases-items
decreases-items g l = length (items_in l.items)
