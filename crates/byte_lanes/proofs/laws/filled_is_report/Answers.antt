use Rattle.byte_lanes.proofs.Reports.{filled_is_report}
use Rattle.byte_lanes.proofs.laws.filled_is_report.Goals as goal

pub returns : goal.returns
returns c = filled_is_report
