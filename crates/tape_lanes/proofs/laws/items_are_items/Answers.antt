use Rattle.tape_lanes.proofs.Items.{items_are_items}
use Rattle.tape_lanes.proofs.laws.items_are_items.Goals as goal

pub returns : goal.returns
returns c = items_are_items
