use Rattle.std.proofs.Common.{arith}
use Rattle.speed.proofs.Below.{below_plane, former_plane}
use Rattle.speed.proofs.routes.put.Goals as goal

pub returns : goal.returns
returns c =
    let facts = c.change.ensures in record {
      below = below_plane c.change.result c.args.number _ _ _ _ c.args.change (omega (arith, c.ranges.number.fits, c.from.ensures)) c.requires.below c.requires.former facts.ok facts.stays facts.undone;
      former = former_plane c.args.number _ _ facts.before c.requires.former;
    }
