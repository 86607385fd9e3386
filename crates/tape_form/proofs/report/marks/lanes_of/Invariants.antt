use Rattle.std.proofs.Common.{take}
use Rattle.tape_form.specs.LaneLines.{AreMarked}
use Rattle.tape_form.proofs.report.marks.lanes_of.Given as goal

abbrev pub invariant-loop-packet : goal.invariant-loop-packet
invariant-loop-packet l = AreMarked l.marks (take l.packet-index l.records)
