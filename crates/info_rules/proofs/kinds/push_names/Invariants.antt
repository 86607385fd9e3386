use Rattle.std.proofs.Common.{length, map}
use Rattle.info_rules.specs.Objects.{name_of}
use Rattle.p4v1_read.specs.Nested.{read, all_at}
use Rattle.info_rules.proofs.Asked.{read_of, Adds}
use Rattle.info_rules.proofs.kinds.push_names.Given as goal

abbrev pub invariant-messages : goal.invariant-messages
invariant-messages g l = Adds (all_at g.K.Kind.meaning l.number l.message) (read_of (read g.K.Kind.meaning) l.left) (λ x. name_of (g.K.Kind.given x)) (map (λ x. x.now) l.initial.names.items) (map (λ x. x.now) l.names.items)

abbrev pub decreases-messages : goal.decreases-messages
decreases-messages g l = length l.left
