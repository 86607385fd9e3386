use Rattle.bm_link.proofs.Pushes.{takes}
use Rattle.bm_link.proofs.tables.table_action.Goals as goal

pub returns-clause-taken : goal.returns-clause-taken
returns-clause-taken c = takes c.args.ids.now c.remove.new.self c.args.name.now c.remove.ensures.updates
