use Rattle.byte_lanes.proofs.Records.{records_are_items}
use Rattle.byte_lanes.proofs.laws.records_are_items.Goals as goal

pub returns : goal.returns
returns c = records_are_items
