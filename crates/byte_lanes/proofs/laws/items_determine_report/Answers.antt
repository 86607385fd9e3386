use Rattle.byte_lanes.proofs.Determined.{items_determine}
use Rattle.byte_lanes.proofs.laws.items_determine_report.Goals as goal

pub returns : goal.returns
returns c = items_determine
