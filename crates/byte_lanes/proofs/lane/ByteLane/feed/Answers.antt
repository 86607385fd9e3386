use Rattle.std.proofs.Common.{◌++◌, Ok, refl, sym, ap, subst, ◌∙◌, List, ℕ}
use Rattle.byte_lanes.specs.Lane.{LaneState, IsLane}
use Rattle.byte_lanes.proofs.Lanes.{state_of, held_lane}
use Rattle.byte_lanes.proofs.lane.ByteLane.feed.Goals as goal

pub returns-clause-fed : goal.returns-clause-fed
returns-clause-fed g c served lane =
    let is : IsLane (state_of c.self.inside.service c.self.inside.sent) served = subst (λ (s : LaneState). IsLane s served) (sym c.self.view_is) lane in
    let f = held_lane g.D.Desk.answers c.args.pass.now c.feed.new.pass c.args.piece.now c.self.inside.service c.feed.new.self c.self.inside.sent (Ok c.in_ok-bytes.bytes) c.in_ok-bytes.bytes refl c.in_ok-bytes.ensures.served served is in
    (f.0, (f.1.0, c.in_ok-extend_from_slice.ensures.ok ∙ ap (λ (w : List ℕ). c.self.inside.sent ++ w) c.as_slice.ensures ∙ f.1.1), f.2)
