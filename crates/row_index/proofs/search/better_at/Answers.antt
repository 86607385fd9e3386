use Rattle.std.proofs.Common.{ℕ, arith}
use Rattle.std.specs.Prelude.{is_some}
use Rattle.row_index.specs.Places.{place_at}
use Rattle.row_index.proofs.Named.{live, not_of_shape, not_of_print}
use Rattle.row_index.proofs.search.better_at.Goals as goal

pub returns-then-placed-shape-clause-here : goal.returns-then-placed-shape-clause-here
returns-then-placed-shape-clause-here g c = λ offered. absurd (not_of_shape c.args.chains.now.places c.args.shape c.args.print c.args.place c.at-placed.result c.at-placed.ensures (λ e. omega (arith, e)) offered)

pub returns-then-placed-print-clause-here : goal.returns-then-placed-print-clause-here
returns-then-placed-print-clause-here g c = λ offered. absurd (not_of_print c.args.chains.now.places c.args.shape c.args.print c.args.place c.at-placed.result c.at-placed.ensures (λ e. omega (arith, e)) offered)

pub better-requires-clause-live : goal.better-requires-clause-live
better-requires-clause-live g c = live c.args.chains.now c.args.shapes.now.list.items c.args.shapes.now.asks.items (g.R.Rows.entry c.args.rows.now) c.args.place c.requires.searchable c.requires.used

pub returns : goal.returns
returns g c = record {
  hit = c.better.ensures.hit;
  here = λ offered. c.better.ensures.here;
  kept = c.better.ensures.kept;
  linked = λ best. c.better.ensures.linked (λ (n : ℕ). is_some (place_at c.args.chains.now.places n)) c.requires.used best;
}
