use Rattle.std.proofs.Common.{◌≡◌, ◌-◌, ◌++◌, string_bytes}
use Rattle.p4_types.specs.declared.tape.Who.TheVariants.{Controller}
use Rattle.tape_form.specs.LaneLines.{lane_lines}
use Rattle.tape_form.proofs.report.packets.push_controllers.Given as goal

abbrev pub invariant-loop-lane : goal.invariant-loop-lane
invariant-loop-lane l = string_bytes l.out ++ lane_lines Controller l.lane (32 - l.lane) l.records ≡ string_bytes l.initial.out ++ lane_lines Controller 0 32 l.records
