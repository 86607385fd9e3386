use Rattle.std.proofs.Common.{rules, eqb, not, tests}
use Rattle.std.proofs.lemmas.Fn.{filter_same}
use Rattle.digest_lists.proofs.lists.forget.Goals as goal

pub returns-clause-items : goal.returns-clause-items
returns-clause-items c = filter_same _ (λ digest. not (eqb digest.id c.args.id)) _ (λ x b q k. search (rules, tests)) _ _ c.retain.ensures.filtered
