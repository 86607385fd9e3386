use Rattle.std.proofs.Common.{ap, sym, ◌∙◌, arith}
use Rattle.lane_table.proofs.Keeping.{notes_at}
use Rattle.lane_table.proofs.table.LaneTable.note.Goals as goal

pub split_seat-requires : goal.split_seat-requires
split_seat-requires g c = (ap (λ j. j.table) c.journal.view_is ∙ c.requires ∙ sym c.self.view_is, omega (arith, c.self.invariant), notes_at g.E.OfLane.lane _ _ c.journal.invariant)
