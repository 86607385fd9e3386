use Rattle.std.proofs.Common.{◌≡◌, length, suc, ◌-◌, sym, ◌∙◌, arith}
use Rattle.row_index.specs.Reach.{reach}
use Rattle.row_index.specs.Places.{in_bucket}
use Rattle.row_index.specs.Aims.{bound}
use Rattle.row_index.proofs.Reaching.{reach_le, reach_passes}
use Rattle.row_index.proofs.Threading.{in_within}
use Rattle.row_index.proofs.chains.Chains.above.Goals as goal

pub before-end-requires : goal.before-end-requires
before-end-requires c =
    let e : reach (in_bucket c.args.self.now.places c.args.bucket) (bound c.loop-end.above (length c.args.self.now.places)) ≡ suc (c.loop-end.end - 1) = sym c.loop-end.invariant.end ∙ omega arith in
    reach_passes (in_bucket c.args.self.now.places c.args.bucket) (bound c.loop-end.above (length c.args.self.now.places)) (c.loop-end.end - 1) e

pub loop-end-smaller : goal.loop-end-smaller
loop-end-smaller c = let le = reach_le (in_bucket c.args.self.now.places c.args.bucket) (c.loop-end.end - 1) in omega (arith, le, c.before-end.ensures)

pub loop-end-preserved : goal.loop-end-preserved
loop-end-preserved c =
    let e : reach (in_bucket c.args.self.now.places c.args.bucket) (bound c.loop-end.above (length c.args.self.now.places)) ≡ suc (c.loop-end.end - 1) = sym c.loop-end.invariant.end ∙ omega arith in
    let passes = reach_passes (in_bucket c.args.self.now.places c.args.bucket) (bound c.loop-end.above (length c.args.self.now.places)) (c.loop-end.end - 1) e in
    record {
      end = c.before-end.ensures;
      higher = (omega arith, in_within c.args.self.now.places c.args.bucket (c.loop-end.end - 1) passes, passes);
    }
