use Rattle.std.proofs.Common.{◌≡◌, ℕ, length, ◌-◌, arith}
use Rattle.row_index.specs.Best.{IsCovered}
use Rattle.row_index.specs.Cuts.{bucket_of}
use Rattle.row_index.specs.Places.{in_bucket}
use Rattle.row_index.specs.Search.{IsOffered}
use Rattle.row_index.proofs.Reaching.{reach_le}
use Rattle.row_index.proofs.Walking.{standing, walk_on, walk_begins, offered_in, used_there}
use Rattle.row_index.proofs.search.best_in.Goals as goal

pub loop-end-init : goal.loop-end-init
loop-end-init g c =
    let is : c.bucket_of-bucket.result ≡ bucket_of c.args.chains.now.count c.args.print = rw c.buckets.ensures at c.bucket_of-bucket.ensures.bucket in
    record {
      here = λ lt. standing (in_bucket c.args.chains.now.places c.bucket_of-bucket.result) (length c.args.chains.now.places) c.end-end.result c.end-end.ensures lt;
      hit = c.requires.best;
      walked = λ other le offered. absurd {A = IsCovered (g.R.Rows.entry c.args.rows.now) c.args.table c.args.key.now c.args.best other} (walk_begins c.args.chains.now.places c.bucket_of-bucket.result c.end-end.result other c.end-end.ensures le (offered_in c.args.chains.now c.args.shape c.args.print c.bucket_of-bucket.result other c.requires.searchable.buckets is offered));
      kept = λ other h. h;
      linked = λ h. h;
    }

pub better_at-best-requires-clause-used : goal.better_at-best-requires-clause-used
better_at-best-requires-clause-used g c = used_there c.args.chains.now.places c.bucket_of-bucket.result (c.loop-end.end - 1) (c.loop-end.invariant.here c.loop-end-test.true)

pub before-end-requires : goal.before-end-requires
before-end-requires g c = c.loop-end.invariant.here c.loop-end-test.true

pub loop-end-smaller : goal.loop-end-smaller
loop-end-smaller g c = let le = reach_le (in_bucket c.args.chains.now.places c.bucket_of-bucket.result) (c.loop-end.end - 1) in omega (arith, le, c.before-end.ensures)

pub loop-end-preserved : goal.loop-end-preserved
loop-end-preserved g c =
    let is : c.bucket_of-bucket.result ≡ bucket_of c.args.chains.now.count c.args.print = rw c.buckets.ensures at c.bucket_of-bucket.ensures.bucket in
    record {
      here = λ lt. standing (in_bucket c.args.chains.now.places c.bucket_of-bucket.result) (c.loop-end.end - 1) c.before-end.result c.before-end.ensures lt;
      hit = c.better_at-best.ensures.hit;
      walked = λ other le offered.
          walk_on (in_bucket c.args.chains.now.places c.bucket_of-bucket.result) (λ (n : ℕ). IsOffered c.args.chains.now.places c.args.shape c.args.print n → IsCovered (g.R.Rows.entry c.args.rows.now) c.args.table c.args.key.now c.better_at-best.result n) (c.loop-end.end - 1) c.before-end.result c.before-end.ensures
          c.better_at-best.ensures.here (λ n after e there. c.better_at-best.ensures.kept n (c.loop-end.invariant.walked n (omega (arith, after)) there)) other le
          (offered_in c.args.chains.now c.args.shape c.args.print c.bucket_of-bucket.result other c.requires.searchable.buckets is offered) offered;
      kept = λ other h. c.better_at-best.ensures.kept other (c.loop-end.invariant.kept other h);
      linked = λ h. c.better_at-best.ensures.linked (c.loop-end.invariant.linked h);
    }

pub returns : goal.returns
returns g c = record {
  hit = c.loop-end.invariant.hit;
  walked = λ other offered. c.loop-end.invariant.walked other (let done : c.loop-end.end ≡ 0 = omega arith in omega (arith, done)) offered;
  kept = c.loop-end.invariant.kept;
  linked = c.loop-end.invariant.linked;
}
