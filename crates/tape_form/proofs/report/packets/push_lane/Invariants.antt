use Rattle.std.proofs.Common.{◌≡◌, ◌++◌, take, string_bytes}
use Rattle.std.specs.List.{flat_map}
use Rattle.switch_spec.specs.Carrying.{records_of}
use Rattle.run_spec.specs.ReportText.{packet_line}
use Rattle.tape_form.proofs.report.packets.push_lane.Given as goal

abbrev pub invariant-loop-packet : goal.invariant-loop-packet
invariant-loop-packet l = string_bytes l.out ≡ string_bytes l.initial.out ++ flat_map packet_line (records_of l.lane (take l.packet-index l.records))
