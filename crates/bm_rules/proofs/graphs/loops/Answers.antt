use Rattle.std.proofs.Common.{◌≡◌, length, not, ap, ◌∙◌, rules}
use Rattle.bm_rules.proofs.Peeled.{verdict}
use Rattle.bm_rules.proofs.graphs.loops.Goals as goal

pub returns : goal.returns
returns c =
    let same : length c.peel_all.new.peeled ≡ length c.args.edges.now = search rules in
    ap not c.are_all.ensures ∙ verdict c.args.edges.now c.peel_all.new.peeled same c.requires.inside (c.peel_all.ensures.no_long (c.in_ok-settle_all.ensures c.requires.begins)) c.peel_all.ensures.stuck
