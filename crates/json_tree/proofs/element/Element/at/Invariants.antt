use Rattle.std.proofs.Common.{◌≡◌}
use Rattle.serde_json.specs.Find.{at, get_item}
use Rattle.serde_json.specs.View.{items_of}
use Rattle.json_tree.specs.View.{view, items_in}
use Rattle.json_tree.proofs.element.Element.at.Given as goal

abbrev pub invariant-items : goal.invariant-items
invariant-items l = at l.place (view l.self) ≡ get_item l.left (items_of (items_in l.items))

abbrev pub decreases-items : goal.decreases-items
decreases-items l = l.left
