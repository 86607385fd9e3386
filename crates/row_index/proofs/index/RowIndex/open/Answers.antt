use Rattle.std.proofs.Common.{ap, arith}
use Rattle.row_index.specs.Places.{Buckets}
use Rattle.row_index.proofs.Indexing.{sound_opened, indexes_nothing}
use Rattle.row_index.proofs.index.RowIndex.open.Goals as goal

pub invariant_of-result : goal.invariant_of-result
invariant_of-result c =
    sound_opened c.in_ok-chains.chains c.args.rows _ _ c.in_ok-asks.asks.items c.in_ok-list.list.items (let count = ap (λ (b : Buckets). b.count) c.in_ok-chains.ensures in omega (arith, count)) (ap (λ (b : Buckets). b.places) c.in_ok-chains.ensures) c.in_ok-list.ensures.items c.in_ok-asks.ensures.items c.ranges.rows.fits c.in_ok-list.ensures.capacity c.in_ok-asks.ensures.capacity

pub returns-clause-rows : goal.returns-clause-rows
returns-clause-rows c = λ rows. indexes_nothing _ rows c.args.rows (ap (λ (b : Buckets). b.places) c.in_ok-chains.ensures)
