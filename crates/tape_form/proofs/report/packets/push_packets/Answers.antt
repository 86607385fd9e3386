use Rattle.std.proofs.Common.{◌++◌, ◌∙◌, ap, string_bytes}
use Rattle.p4_types.specs.declared.tape.Who.TheVariants.{Worker, Controller}
use Rattle.tape_form.specs.LaneLines.{lane_lines}
use Rattle.tape_form.proofs.Joining.{two_parts, all_lanes}
use Rattle.tape_form.proofs.report.packets.push_packets.Goals as goal

pub returns : goal.returns
returns c =
    two_parts (string_bytes c.args.out.now) (string_bytes c.push_workers.new.out) (string_bytes c.push_controllers.new.out) (lane_lines Worker 0 16 c.args.records.now) (lane_lines Controller 0 32 c.args.records.now)
    c.in_ok-push_workers.ensures c.in_ok-push_controllers.ensures
    ∙ ap (λ w. string_bytes c.args.out.now ++ w) (all_lanes c.args.records.now)
