use Rattle.std.proofs.Common.{◌≡◌, ◌++◌, length, Some}
use Rattle.serde_json.specs.View.{items_of}
use Rattle.list_types.specs.Options.{◌>>=◌}
use Rattle.json_tree.specs.View.{items_in}
use Rattle.json_shapes.specs.Shapes.{each_item}
use Rattle.json_shapes.proofs.shapes.each_item.Given as goal

abbrev pub invariant-items : goal.invariant-items
invariant-items g l = (each_item g.T.FromJson.shape (items_of (items_in l.items)) >>= λ rest. Some (l.list ++ rest)) ≡ each_item g.T.FromJson.shape (items_of (items_in l.initial.items))

abbrev pub decreases-items : goal.decreases-items
decreases-items g l = length (items_in l.items)
