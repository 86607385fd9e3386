use Rattle.info_rules.specs.Objects.{id_of}
use Rattle.info_rules.specs.Pairs.{joined, named_pairs}
use Rattle.info_rules.proofs.Joined.{found_beside}
use Rattle.info_rules.proofs.pairs.put_pairs.Goals as goal

pub returns : goal.returns
returns g c = found_beside (g.N.Kind.meaning c.args.message.now) (λ x. id_of (g.N.Kind.given x)) g.N.Naming.named_ids (λ own named. joined c.args.pairs.now.keys (named_pairs g.N.Naming.paired own named)) _ _ _ _
    c.in_ok-own.ensures c.in_ok-named.ensures c.as_slice.ensures.value c.in_ok-put_named.ensures
