use Rattle.std.proofs.Common.{ap, sym, ◌∙◌, arith}
use Rattle.std.proofs.Common.{refl, subst}
use Rattle.lane_table.specs.Ruling.{IsAtJournal}
use Rattle.lane_table.proofs.Keeping.{compares_at}
use Rattle.lane_table.proofs.table.LaneTable.confirm_lanes.Goals as goal

pub load-requires : goal.load-requires
load-requires g c = (ap (λ j. j.table) c.journal.view_is ∙ c.requires ∙ sym c.self.view_is, omega (arith, c.self.invariant), compares_at g.E.OfLane.lane _ _ _ (subst IsAtJournal (sym c.journal.invariant) refl))
