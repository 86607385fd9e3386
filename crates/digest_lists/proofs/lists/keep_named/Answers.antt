use Rattle.std.proofs.Common.{rules, tests}
use Rattle.std.proofs.lemmas.Fn.{filter_same}
use Rattle.digest_lists.specs.Fold.{names}
use Rattle.digest_lists.proofs.lists.keep_named.Goals as goal

pub returns-clause-items : goal.returns-clause-items
returns-clause-items c = filter_same _ (λ digest. names c.args.entries.now digest.id) _ (λ x b q k. search (rules, tests)) _ _ c.retain.ensures.filtered
