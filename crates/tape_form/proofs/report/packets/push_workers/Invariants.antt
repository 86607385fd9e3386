use Rattle.std.proofs.Common.{◌≡◌, ◌-◌, ◌++◌, string_bytes}
use Rattle.p4_types.specs.declared.tape.Who.TheVariants.{Worker}
use Rattle.tape_form.specs.LaneLines.{lane_lines}
use Rattle.tape_form.proofs.report.packets.push_workers.Given as goal

abbrev pub invariant-loop-lane : goal.invariant-loop-lane
invariant-loop-lane l = string_bytes l.out ++ lane_lines Worker l.lane (16 - l.lane) l.records ≡ string_bytes l.initial.out ++ lane_lines Worker 0 16 l.records
