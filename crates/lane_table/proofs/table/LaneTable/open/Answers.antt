use Rattle.lane_table.proofs.Keeping.{opens}
use Rattle.lane_table.proofs.table.LaneTable.open.Goals as goal

pub of_words-requires : goal.of_words-requires
of_words-requires g c = opens g.E.OfLane.lane
