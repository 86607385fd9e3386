use Rattle.p4v1_read.specs.Nested.{read, all_at}
use Rattle.info_rules.proofs.Asked.{read_of, Counts}
use Rattle.info_rules.proofs.asking.exceeds.Given as goal

abbrev pub invariant-messages : goal.invariant-messages
invariant-messages g l = Counts (all_at g.T.Readable.meaning l.number l.message) (read_of (read g.T.Readable.meaning) l.left) l.counter
