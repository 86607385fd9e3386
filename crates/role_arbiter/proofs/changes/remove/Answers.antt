use Rattle.std.proofs.Common.{rules, eqb, not}
use Rattle.std.proofs.Common.{tests}
use Rattle.std.proofs.lemmas.Fn.{filter_same}
use Rattle.role_arbiter.proofs.changes.remove.Goals as goal

pub returns-clause-items : goal.returns-clause-items
returns-clause-items c = filter_same _ (λ session. not (eqb session.caller c.args.caller)) _ (λ x b q k. search (rules, tests)) _ _ c.retain.ensures.filtered
