use Rattle.std.proofs.Common.{◌≡◌, length, replicate, false, sym, subst, rules}
use Rattle.bm_rules.specs.Peeling.{NoLong}
use Rattle.bm_rules.proofs.Peeled.{begins}
use Rattle.bm_rules.proofs.graphs.has_loop.Goals as goal

pub loops-requires-clause-begins : goal.loops-requires-clause-begins
loops-requires-clause-begins c =
    let items : c.as_mut_slice.result.now ≡ replicate (length c.args.edges.now) false = search rules in
    subst (λ peeled. NoLong c.args.edges.now peeled) (sym items) (begins c.args.edges.now (length c.args.edges.now))
