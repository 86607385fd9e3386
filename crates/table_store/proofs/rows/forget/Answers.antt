use Rattle.std.proofs.Common.{sym}
use Rattle.table_store.proofs.OneGroup.{forgot}
use Rattle.table_store.proofs.rows.forget.Goals as goal

pub returns-in-None-clause-covered : goal.returns-in-None-clause-covered
returns-in-None-clause-covered c = forgot c.args.index.now c.remove.new.self c.args.entries.now c.args.row.seq c.remove.ensures.others (sym c.in-None.ensures) c.requires.covered
