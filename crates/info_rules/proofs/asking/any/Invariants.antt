use Rattle.std.proofs.Common.{length}
use Rattle.p4v1_read.specs.Nested.{read, all_at}
use Rattle.info_rules.proofs.Asked.{read_of, Remains}
use Rattle.info_rules.proofs.asking.any.Given as goal

abbrev pub invariant-messages : goal.invariant-messages
invariant-messages g l = Remains (all_at g.Q.Question.meaning l.number l.message) (read_of (read g.Q.Question.meaning) l.left) (g.Q.Question.answer l.question)

abbrev pub decreases-messages : goal.decreases-messages
decreases-messages g l = length l.left
