use Rattle.std.proofs.Common.{◌≡◌, Some}
use Rattle.row_index.proofs.Threading.{threaded_unlinked, in_own}
use Rattle.row_index.specs.Places.{place_at}
use Rattle.row_index.proofs.chains.Chains.unlink.Goals as goal

pub above-above-requires-clause-bucket : goal.above-above-requires-clause-bucket
above-above-requires-clause-bucket c =
    let there : place_at c.self.inside.places.items c.args.place ≡ Some c.at-placed.result = rw (← c.self.view_is) at c.at-placed.ensures in
    rw (← c.self.view_is) (c.self.invariant.within c.at-placed.result.bucket c.args.place (in_own c.self.inside.places.items c.args.place c.at-placed.result there))

pub invariant_of-self : goal.invariant_of-self
invariant_of-self c =
    let threaded =
    threaded_unlinked c.self.inside.heads.items c.self.inside.links.items c.self.inside.places.items c.args.place c.at-placed.result c.above-above.result c.before-below.result c.self.invariant
    (rw (← c.self.view_is) at c.at-placed.ensures) (rw (← c.self.view_is) at c.above-above.ensures) (rw (← c.self.view_is) at c.before-below.ensures) in
    rw (c.aim.ensures.heads, c.aim.ensures.links) threaded
