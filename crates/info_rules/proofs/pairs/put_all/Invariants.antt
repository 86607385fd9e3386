use Rattle.std.proofs.Common.{length}
use Rattle.info_rules.specs.Objects.{id_of}
use Rattle.p4v1_read.specs.Nested.{read, all_at}
use Rattle.info_rules.specs.Pairs.{named_pairs}
use Rattle.info_rules.proofs.Asked.{read_of, Joins}
use Rattle.info_rules.proofs.pairs.put_all.Given as goal

abbrev pub invariant-messages : goal.invariant-messages
invariant-messages g l = Joins (all_at g.N.Kind.meaning l.number l.message) (read_of (read g.N.Kind.meaning) l.left) (λ object. named_pairs g.N.Naming.paired (id_of (g.N.Kind.given object)) (g.N.Naming.named_ids object)) l.initial.pairs.keys l.pairs.keys

abbrev pub decreases-messages : goal.decreases-messages
decreases-messages g l = length l.left
