use Rattle.row_index.proofs.Covering.{hit_offered}
use Rattle.row_index.proofs.search.best_of.Goals as goal

pub returns-clause-walked : goal.returns-clause-walked
returns-clause-walked g c = λ other of_shape entry e hit.
    c.best_in.ensures.walked other
    (hit_offered c.args.chains.now c.args.shapes.now.list.items c.args.shapes.now.asks.items (g.R.Rows.entry c.args.rows.now) c.args.table c.args.key.now other c.args.ask.shape c.key_print-print.result c.shape_at-shape.result.now entry c.requires.searchable c.shape_at-shape.ensures
    (rw (c.from.ensures, c.as_slice.ensures) at c.key_print-print.ensures) of_shape e hit)
    entry e hit
