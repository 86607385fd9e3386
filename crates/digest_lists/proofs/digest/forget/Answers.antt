use Rattle.std.proofs.Common.{rules, eqb, not, tests}
use Rattle.std.proofs.lemmas.Fn.{filter_same}
use Rattle.digest_lists.proofs.digest.forget.Goals as goal

pub returns-clause-items : goal.returns-clause-items
returns-clause-items c = filter_same _ (λ sent. not (eqb sent.list_id c.args.list)) _ (λ x b q k. search (rules, tests)) _ _ c.retain.ensures.filtered
