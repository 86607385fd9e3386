use Rattle.byte_lanes.proofs.Records.{items_are_records}
use Rattle.byte_lanes.proofs.laws.items_are_records.Goals as goal

pub returns : goal.returns
returns c = items_are_records
