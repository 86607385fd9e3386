use Rattle.std.proofs.Common.{ap, sym, ◌∙◌, arith}
use Rattle.lane_table.proofs.Keeping.{takes_at}
use Rattle.lane_table.proofs.table.LaneTable.take.Goals as goal

pub join_seat-requires : goal.join_seat-requires
join_seat-requires g c =
    let table = sym c.self.view_is in
    (c.requires.journal.0 ∙ table, c.requires.other.0 ∙ table, ap (λ m. m.1) c.requires.other.1, omega (arith, c.self.invariant), takes_at g.E.OfLane.lane _ _ _ _ c.requires.journal.1 c.requires.other.1)
