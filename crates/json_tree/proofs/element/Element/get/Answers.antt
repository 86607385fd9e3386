use Rattle.json_tree.specs.View.{view, items_in}
use Rattle.json_tree.proofs.Finding.{found_in}
use Rattle.json_tree.proofs.element.Element.get.Goals as goal

pub members-init : goal.members-init
members-init c = found_in c.args.name.now (view c.args.self.now) (items_in c.in_ok-members.members) c.in_ok-members.ensures
