use Rattle.std.proofs.Common.{◌≡◌, ◌++◌, length, Some}
use Rattle.list_types.specs.Options.{◌>>=◌}
use Rattle.wire_messages.specs.Message.{each, bytes_of}
use Rattle.p4v1_read.specs.Nested.{read, all_at}
use Rattle.p4v1_answers.proofs.reading.all.Given as goal

abbrev pub invariant-messages : goal.invariant-messages
invariant-messages g l = (each bytes_of l.left >>= λ given. each (read g.T.Readable.meaning) given >>= λ rest. Some (l.list ++ rest)) ≡ all_at g.T.Readable.meaning l.number l.message

abbrev pub decreases-messages : goal.decreases-messages
decreases-messages g l = length l.left
