use Rattle.std.proofs.Common.{◌≡◌, length, option_map}
use Rattle.serde_json.specs.Find.{get}
use Rattle.json_tree.specs.View.{view, items_in}
use Rattle.json_tree.proofs.Finding.{later}
use Rattle.json_tree.proofs.element.Element.get.Given as goal

abbrev pub invariant-members : goal.invariant-members
invariant-members l = get l.name (view l.self) ≡ later l.name (items_in l.members) (option_map view l.found)

abbrev pub decreases-members : goal.decreases-members
decreases-members l = length (items_in l.members)
