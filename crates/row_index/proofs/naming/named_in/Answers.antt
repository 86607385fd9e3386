use Rattle.std.proofs.Common.{◌≡◌, ℕ, false, length, ◌-◌, arith}
use Rattle.row_index.specs.Cuts.{bucket_of}
use Rattle.row_index.specs.Places.{in_bucket}
use Rattle.row_index.specs.Search.{IsOffered, IsOther}
use Rattle.row_index.proofs.Reaching.{reach_le}
use Rattle.row_index.proofs.Walking.{standing, walk_on, walk_begins, offered_in, used_there}
use Rattle.row_index.proofs.naming.named_in.Goals as goal

pub loop-end-init : goal.loop-end-init
loop-end-init g c =
    let is : c.bucket_of-bucket.result ≡ bucket_of c.args.chains.now.count c.args.print = rw c.buckets.ensures at c.bucket_of-bucket.ensures.bucket in
    record {
      here = λ lt. standing (in_bucket c.args.chains.now.places c.bucket_of-bucket.result) (length c.args.chains.now.places) c.end-end.result c.end-end.ensures lt;
      walked = λ other le offered. absurd {A = IsOther (g.R.Rows.entry c.args.rows.now) c.args.name.now other} (walk_begins c.args.chains.now.places c.bucket_of-bucket.result c.end-end.result other c.end-end.ensures le (offered_in c.args.chains.now c.args.shape c.args.print c.bucket_of-bucket.result other c.requires.buckets is offered));
    }

pub is_named-requires-clause-used : goal.is_named-requires-clause-used
is_named-requires-clause-used g c = used_there c.args.chains.now.places c.bucket_of-bucket.result (c.loop-end.end - 1) (c.loop-end.invariant.here c.loop-end-test.true)

pub before-end-requires : goal.before-end-requires
before-end-requires g c = c.loop-end.invariant.here c.loop-end-test.true

pub loop-end-smaller : goal.loop-end-smaller
loop-end-smaller g c = let le = reach_le (in_bucket c.args.chains.now.places c.bucket_of-bucket.result) (c.loop-end.end - 1) in omega (arith, le, c.before-end.ensures)

pub loop-end-preserved : goal.loop-end-preserved
loop-end-preserved g c =
    let is : c.bucket_of-bucket.result ≡ bucket_of c.args.chains.now.count c.args.print = rw c.buckets.ensures at c.bucket_of-bucket.ensures.bucket in
    let none : c.is_named.result ≡ false = c.if-is_named.false in
    let other_here = rw none at c.is_named.ensures.other in
    record {
      here = λ lt. standing (in_bucket c.args.chains.now.places c.bucket_of-bucket.result) (c.loop-end.end - 1) c.before-end.result c.before-end.ensures lt;
      walked = λ other le offered.
          walk_on (in_bucket c.args.chains.now.places c.bucket_of-bucket.result) (λ (n : ℕ). IsOffered c.args.chains.now.places c.args.shape c.args.print n → IsOther (g.R.Rows.entry c.args.rows.now) c.args.name.now n) (c.loop-end.end - 1) c.before-end.result c.before-end.ensures
          other_here (λ n after e there. c.loop-end.invariant.walked n (omega (arith, after)) there) other le
          (offered_in c.args.chains.now c.args.shape c.args.print c.bucket_of-bucket.result other c.requires.buckets is offered) offered;
    }
