use Rattle.std.proofs.Common.{take}
use Rattle.wire_messages.proofs.WrittenBytes.{MessagesSoFar}
use Rattle.p4v1_wire.specs.Rows.{fields_by}
use Rattle.p4v1_wire.proofs.writing.messages.Given as goal

abbrev pub invariant-loop-message : goal.invariant-loop-message
invariant-loop-message g l = MessagesSoFar (fields_by g.M.Writable.rows) g.M.Writable.in_range l.number (take l.message-index l.messages) l.initial.writer l.writer
