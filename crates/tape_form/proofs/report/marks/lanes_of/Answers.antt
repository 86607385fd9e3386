use Rattle.std.proofs.Common.{◌≡◌, take, subst, arith}
use Rattle.std.proofs.lemmas.List.{take_all}
use Rattle.tape_form.specs.LaneLines.{AreMarked}
use Rattle.tape_form.proofs.Marks.{marked_more}
use Rattle.tape_form.proofs.report.marks.lanes_of.Goals as goal

pub loop-packet-preserved : goal.loop-packet-preserved
loop-packet-preserved c =
    marked_more c.loop-packet.marks c.mark.new.marks c.args.records.now c.loop-packet.packet-index c.packet-item.result c.loop-packet-test.true c.packet-item.is c.mark.ensures.kept c.mark.ensures.marked c.loop-packet.invariant

pub returns : goal.returns
returns c =
    let whole : take c.loop-packet.packet-index c.args.records.now ≡ c.args.records.now = take_all c.loop-packet.packet-index c.args.records.now (omega arith) in
    subst (AreMarked c.loop-packet.marks) whole c.loop-packet.invariant
