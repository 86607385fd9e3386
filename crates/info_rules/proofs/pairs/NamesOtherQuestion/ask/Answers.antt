use Rattle.std.proofs.Common.{◌∙◌, sym}
use Rattle.info_rules.specs.Objects.{id_of}
use Rattle.info_rules.specs.Rules.{lacks_some, same_pair}
use Rattle.info_rules.specs.Pairs.{named_pairs}
use Rattle.info_rules.proofs.Joined.{found_beside, lacks_beside}
use Rattle.info_rules.proofs.pairs.NamesOtherQuestion.ask.Goals as goal

pub returns : goal.returns
returns g c = found_beside (g.N.Kind.meaning c.args.message.now) (λ x. id_of (g.N.Kind.given x)) g.N.Naming.named_ids (λ own named. lacks_some same_pair c.args.self.now.known.now.keys (named_pairs g.N.Naming.paired own named)) _ _ _ _
    c.in_ok-own.ensures c.in_ok-named.ensures c.as_slice.ensures.value (c.lacks_named.ensures ∙ sym (lacks_beside _ g.N.Naming.paired _ _))
