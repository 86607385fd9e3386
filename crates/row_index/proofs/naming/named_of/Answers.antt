use Rattle.std.proofs.Common.{ℕ, sym, ◌∙◌}
use Rattle.row_index.specs.Search.{IsOffered, IsOfShape, IsOther}
use Rattle.row_index.proofs.Named.{other_cuts, other_print, none_then}
use Rattle.row_index.proofs.naming.named_of.Goals as goal

pub returns-then-not-same_cuts-clause-none : goal.returns-then-not-same_cuts-clause-none
returns-then-not-same_cuts-clause-none g c = λ other.
    other_cuts c.args.chains.now c.args.shapes.now.list.items c.args.shapes.now.asks.items (g.R.Rows.entry c.args.rows.now) c.args.name.now other c.args.ask.shape c.shape_at-shape.result.now c.requires.searchable c.shape_at-shape.ensures
    (sym (rw (c.as_slice.ensures, c.as_slice-tests.ensures) at c.same_cuts.ensures) ∙ c.if-not-same_cuts.true)

pub returns-clause-none : goal.returns-clause-none
returns-clause-none g c =
    none_then c.named_in.result ((other : ℕ) → IsOffered c.args.chains.now.places c.args.ask.shape c.name_print-print.result other → IsOther (g.R.Rows.entry c.args.rows.now) c.args.name.now other) ((other : ℕ) → IsOfShape c.args.chains.now.places c.args.ask.shape other → IsOther (g.R.Rows.entry c.args.rows.now) c.args.name.now other)
    (λ none other of_shape.
    other_print c.args.chains.now c.args.shapes.now.list.items c.args.shapes.now.asks.items (g.R.Rows.entry c.args.rows.now) c.args.name.now other c.args.ask.shape c.shape_at-shape.result.now c.requires.searchable c.shape_at-shape.ensures c.name_print-print.result
    (rw (c.from.ensures, c.as_slice-tests.ensures) at c.name_print-print.ensures) (none other) of_shape)
    c.named_in.ensures.none
