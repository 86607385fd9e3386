use Rattle.std.proofs.Common.{◌≡◌, is_some, length}
use Rattle.p4v1_read.specs.Nested.{read, all_at}
use Rattle.info_rules.proofs.Asked.{read_of}
use Rattle.info_rules.proofs.readable.check_all.Given as goal

abbrev pub invariant-messages : goal.invariant-messages
invariant-messages g l = is_some (all_at g.T.Readable.meaning l.number l.message) ≡ is_some (read_of (read g.T.Readable.meaning) l.left)

abbrev pub decreases-messages : goal.decreases-messages
decreases-messages g l = length l.left
