use Rattle.byte_lanes.proofs.Lanes.{greeted_lane}
use Rattle.byte_lanes.proofs.lane.ByteLane.open.Goals as goal

pub returns-clause-lane : goal.returns-clause-lane
returns-clause-lane g c = (greeted_lane g.D.Desk.answers c.args.pass.now c.feed.new.pass (g.D.Desk.lane_of c.args.pass.now) c.in_ok-service.service c.feed.new.self c.in_ok-sent.sent c.in_ok-service.ensures c.in_ok-sent.ensures.served).0

pub returns-clause-pass : goal.returns-clause-pass
returns-clause-pass g c = (greeted_lane g.D.Desk.answers c.args.pass.now c.feed.new.pass (g.D.Desk.lane_of c.args.pass.now) c.in_ok-service.service c.feed.new.self c.in_ok-sent.sent c.in_ok-service.ensures c.in_ok-sent.ensures.served).1
