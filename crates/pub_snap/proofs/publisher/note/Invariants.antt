use Rattle.std.proofs.Common.{◌≡◌, drop}
use Rattle.pub_snap.proofs.publisher.note.Given as goal

abbrev pub invariant-loop : goal.invariant-loop
invariant-loop g l = (l.writer.desk ≡ l.initial.writer.desk) × (drop l.writer.behind l.writer.log.items ≡ drop l.initial.writer.behind l.initial.writer.log.items) × (l.shift ≡ l.initial.shift)
