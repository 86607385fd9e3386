use Rattle.std.proofs.Common.{sym, ◌∙◌, arith}
use Rattle.std.proofs.Common.{refl, subst}
use Rattle.lane_table.specs.Ruling.{IsAtJournal}
use Rattle.lane_table.proofs.Keeping.{compares_at}
use Rattle.lane_table.proofs.table.LaneTable.compare_seat.Goals as goal

pub load-requires : goal.load-requires
load-requires g c = (c.take.ensures.0 ∙ c.requires.journal.0 ∙ sym c.self.view_is, omega (arith, c.self.invariant), compares_at g.E.OfLane.lane _ _ _ (subst IsAtJournal (sym c.take.ensures.1) refl))
