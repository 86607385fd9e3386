use Rattle.std.proofs.Common.{◌≡◌, ℕ, ◌+◌, length, ap, subst, ◌∙◌}
use Rattle.std.proofs.lemmas.List.{length_push}
use Rattle.byte_lanes.specs.Filling.{greeted}
use Rattle.byte_lanes.specs.Lane.{IsLane}
use Rattle.lockstep_run.specs.Speaking.{Speaking}
use Rattle.lockstep_run.proofs.Greeting.{lane_opened, lane_set}
use Rattle.lockstep_run.proofs.lanes.open_lanes.Goals as goal

pub loop-lane-preserved : goal.loop-lane-preserved
loop-lane-preserved c =
    let same : c.open.new.pass ≡ record c.loop-lane.speaker { lane = c.loop-lane.lane } = c.in_ok-open.ensures.pass ∙ c.set_lane.ensures in
    record {
      wide = ap length c.in_ok-push.ensures.items ∙ length_push c.loop-lane.lanes.items c.in_ok-open.field-0 ∙ ap (λ (n : ℕ). n + 1) c.loop-lane.invariant.wide;
      each = lane_opened greeted c.loop-lane.lanes.items c.push.new.self.items c.loop-lane.lane c.in_ok-open.field-0 c.loop-lane.invariant.wide c.loop-lane.invariant.each
          (subst (λ (lane : ℕ). IsLane c.in_ok-open.field-0 (greeted lane)) (ap (λ (s : Speaking). s.lane) c.set_lane.ensures) c.in_ok-open.ensures.lane) c.in_ok-push.ensures.items;
      session = ap (λ (s : Speaking). s.session) same ∙ c.loop-lane.invariant.session;
      short = ap (λ (s : Speaking). s.is_short) same ∙ c.loop-lane.invariant.short;
      goes_on = lane_set c.loop-lane.speaker c.open.new.pass c.loop-lane.lane same c.loop-lane-test.true c.loop-lane.invariant.goes_on;
    }
