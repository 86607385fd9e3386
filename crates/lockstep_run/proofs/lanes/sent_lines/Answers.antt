use Rattle.std.proofs.Common.{◌≡◌, ℕ, ◌≢◌, sym, subst, arith, length-set, get_or, get_or-set_other, ◌∙◌}
use Rattle.std.specs.List.{filter_map}
use Rattle.run_spec.specs.Text.{count_up}
use Rattle.byte_lanes.specs.Lane.{IsLane}
use Rattle.lockstep_run.specs.Telling.{line_of}
use Rattle.lockstep_run.proofs.Notices.{lane_there, line_added, line_passed}
use Rattle.lockstep_run.proofs.lanes.sent_lines.Goals as goal
use Rattle.lockstep_run.proofs.lanes.sent_lines.Goals.{in-Some+in_ok-push, in_default}

pub loop-lane-preserved : goal.loop-lane-preserved
loop-lane-preserved c = record {
  wide = length-set c.loop-lane.lanes c.from.result c.lane_line.new.link ∙ c.loop-lane.invariant.wide;
  untold = λ place other le.
      let ne : place ≢ c.from.result = omega (arith, c.from.ensures) in
      get_or-set_other c.loop-lane.lanes c.from.result place c.lane_line.new.link other ne ∙ c.loop-lane.invariant.untold place other (omega arith);
  so_far = λ served are.
      let lane : IsLane (get_or c.loop-lane.lanes c.from.result c.index-lanes-from.result) (served c.loop-lane.lane) =
      lane_there c.loop-lane.lanes c.args.lanes.now served c.loop-lane.lane c.from.result c.index-lanes-from.result are c.loop-lane-test.true c.from.ensures (c.loop-lane.invariant.untold c.loop-lane.lane c.index-lanes-from.result (omega arith))
      in
      elim c.match-branch-2.branch [
        | in-Some+in_ok-push w ↦
            line_added (line_of c.args.items.now c.args.journal.now served) c.loop-lane.lane w.in-Some.line c.loop-lane.sent c.match-branch-2.sent (c.loop-lane.invariant.so_far served are) (sym (c.in_ok-line.ensures served lane) ∙ w.in-Some.is) (w.sent-is ∙ w.in_ok-push.ensures.ok)
        | in_default w ↦
            line_passed (line_of c.args.items.now c.args.journal.now served) c.loop-lane.lane c.loop-lane.sent c.match-branch-2.sent (c.loop-lane.invariant.so_far served are) (sym (c.in_ok-line.ensures served lane) ∙ w.in_default.is) w.sent-is
      ];
}

pub returns : goal.returns
returns c = λ served are.
    let end : c.loop-lane.lane ≡ 32 = omega arith in
    subst (λ (n : ℕ). c.loop-lane.sent ≡ filter_map (line_of c.args.items.now c.args.journal.now served) (count_up 0 n)) end (c.loop-lane.invariant.so_far served are)
