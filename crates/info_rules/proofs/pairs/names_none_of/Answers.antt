use Rattle.info_rules.specs.Objects.{id_of}
use Rattle.p4v1_read.specs.Nested.{all_at}
use Rattle.info_rules.specs.Pairs.{named_pairs}
use Rattle.info_rules.proofs.Joined.{none_asked}
use Rattle.info_rules.proofs.pairs.names_none_of.Goals as goal

pub returns : goal.returns
returns g c = none_asked (all_at g.N.Kind.meaning c.args.number c.args.message.now) (λ x. named_pairs g.N.Naming.paired (id_of (g.N.Kind.given x)) (g.N.Naming.named_ids x)) c.args.given.now _ _ _ c.new-named.ensures.empty c.in_ok-put_all.ensures c.lacks.ensures
