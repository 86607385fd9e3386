use Rattle.std.proofs.Common.{◌≡◌, ◌-◌, ◌∙◌, sym, arith, string_bytes}
use Rattle.p4_types.specs.declared.tape.Who.TheVariants.{Controller}
use Rattle.tape_form.proofs.Joining.{lane_more, lanes_done}
use Rattle.tape_form.proofs.report.packets.push_controllers.Goals as goal

pub loop-lane-preserved : goal.loop-lane-preserved
loop-lane-preserved c =
    lane_more Controller c.loop-lane.lane 32 c.args.records.now (string_bytes c.loop-lane.out) (string_bytes c.push_marked.new.out) c.loop-lane-test.true c.in_ok-push_marked.ensures
    ∙ c.loop-lane.invariant

pub returns : goal.returns
returns c =
    let none : 32 - c.loop-lane.lane ≡ 0 = omega arith in
    sym (lanes_done Controller c.loop-lane.lane 32 c.args.records.now (string_bytes c.loop-lane.out) none) ∙ c.loop-lane.invariant
