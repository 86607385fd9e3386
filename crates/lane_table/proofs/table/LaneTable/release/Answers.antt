use Rattle.std.proofs.Common.{sym, ◌∙◌, arith}
use Rattle.lane_table.proofs.Keeping.{releases_at}
use Rattle.lane_table.proofs.table.LaneTable.release.Goals as goal

pub split_seat-requires : goal.split_seat-requires
split_seat-requires g c = (c.requires.0 ∙ sym c.self.view_is, omega (arith, c.self.invariant), releases_at g.E.OfLane.lane _ _ c.requires.1)
