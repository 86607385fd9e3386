use Rattle.std.proofs.Common.{sym}
use Rattle.row_index.proofs.Answering.{named_answer}
use Rattle.row_index.proofs.Indexing.{searchable_of}
use Rattle.row_index.proofs.index.RowIndex.find.Goals as goal

pub named-requires : goal.named-requires
named-requires g c = searchable_of c.self.inside.chains c.self.inside.shapes.list.items c.self.inside.shapes.asks.items _ _ c.args.self.now (g.R.Rows.entry c.args.rows.now) c.self.invariant (sym c.self.view_is) c.requires

pub returns : goal.returns
returns g c = rw (← c.self.view_is) (named_answer c.self.inside.chains.places (g.R.Rows.entry c.args.rows.now) c.args.name.now c.named.result c.named.ensures.named c.named.ensures.none)
