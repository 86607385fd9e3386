use Rattle.row_index.proofs.Opening.{threaded_opened}
use Rattle.row_index.proofs.chains.Chains.open.Goals as goal

pub invariant_of-result : goal.invariant_of-result
invariant_of-result c = rw (c.in_ok-heads.ensures, c.in_ok-links.ensures, c.in_ok-empty.ensures) (threaded_opened c.args.buckets c.args.places c.ranges.buckets.fits c.ranges.places.fits)
