use Rattle.std.proofs.Common.{sym}
use Rattle.row_index.proofs.Answering.{best_some, best_none}
use Rattle.row_index.proofs.Indexing.{searchable_of}
use Rattle.row_index.proofs.index.RowIndex.best.Goals as goal

pub best-requires : goal.best-requires
best-requires g c = searchable_of c.self.inside.chains c.self.inside.shapes.list.items c.self.inside.shapes.asks.items _ _ c.args.self.now (g.R.Rows.entry c.args.rows.now) c.self.invariant (sym c.self.view_is) c.requires

pub returns-in-Some : goal.returns-in-Some
returns-in-Some g c = rw (← c.self.view_is) (best_some c.self.inside.chains.places (g.R.Rows.entry c.args.rows.now) c.args.table c.args.key.now c.in-Some.found c.in-Some.ensures.hit c.in-Some.ensures.linked c.in-Some.ensures.covered)

pub returns-in-None : goal.returns-in-None
returns-in-None g c = rw (← c.self.view_is) (best_none c.self.inside.chains.places (g.R.Rows.entry c.args.rows.now) c.args.table c.args.key.now c.in-None.ensures.covered)
