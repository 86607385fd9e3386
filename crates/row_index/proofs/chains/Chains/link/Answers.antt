use Rattle.row_index.proofs.Threading.{threaded_linked}
use Rattle.row_index.proofs.chains.Chains.link.Goals as goal

pub invariant_of-self : goal.invariant_of-self
invariant_of-self c =
    let threaded =
    threaded_linked c.self.inside.heads.items c.self.inside.links.items c.self.inside.places.items c.args.place c.args.placed c.above-above.result c.below-below.result c.self.invariant
    (rw (← c.self.view_is) at c.requires.place) (rw (← c.self.view_is) at c.requires.free) (rw (← c.self.view_is) at c.requires.bucket) (rw (← c.self.view_is) at c.above-above.ensures) (rw (← c.self.view_is) at c.below-below.ensures) in
    rw (c.aim.ensures.heads, c.aim.ensures.links) threaded
