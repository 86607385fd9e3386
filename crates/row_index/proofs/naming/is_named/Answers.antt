use Rattle.std.proofs.Common.{arith}
use Rattle.row_index.specs.Search.{IsOffered}
use Rattle.row_index.proofs.Named.{live, not_of_shape, not_of_print, named_true, named_false}
use Rattle.row_index.proofs.naming.is_named.Goals as goal

pub returns-then-placed-shape-clause-other : goal.returns-then-placed-shape-clause-other
returns-then-placed-shape-clause-other g c = λ offered. absurd (not_of_shape c.args.chains.now.places c.args.shape c.args.print c.args.place c.at-placed.result c.at-placed.ensures (λ e. omega (arith, e)) offered)

pub returns-then-placed-print-clause-other : goal.returns-then-placed-print-clause-other
returns-then-placed-print-clause-other g c = λ offered. absurd (not_of_print c.args.chains.now.places c.args.shape c.args.print c.args.place c.at-placed.result c.at-placed.ensures (λ e. omega (arith, e)) offered)

pub name-requires : goal.name-requires
name-requires g c = live c.args.chains.now c.args.shapes.now.list.items c.args.shapes.now.asks.items (g.R.Rows.entry c.args.rows.now) c.args.place c.requires.searchable c.requires.used

pub returns : goal.returns
returns g c = record {
  named = named_true c.same_name.result c.args.chains.now.places (g.R.Rows.entry c.args.rows.now) c.args.name.now c.name.result.now c.args.place c.same_name.ensures c.name.ensures c.requires.used;
  other = named_false c.same_name.result (g.R.Rows.entry c.args.rows.now) c.args.name.now c.name.result.now c.args.place (IsOffered c.args.chains.now.places c.args.shape c.args.print c.args.place) c.same_name.ensures c.name.ensures;
}
