use Rattle.std.proofs.Common.{length}
use Rattle.wire_messages.proofs.WrittenBytes.{TextsWritten}
use Rattle.wire_messages.proofs.write.texts.Given as goal

abbrev pub invariant-texts : goal.invariant-texts
invariant-texts l = TextsWritten l.number l.values l.left l.initial.writer l.writer

abbrev pub decreases-texts : goal.decreases-texts
decreases-texts l = length l.left
