use Rattle.std.proofs.Common.{◌<◌, arith, rules}
use Rattle.bm_rules.specs.Peeling.{peeled_count}
use Rattle.bm_rules.proofs.Peeled.{count_within}
use Rattle.bm_rules.proofs.graphs.peel_all.Goals as goal

pub rounds-smaller : goal.rounds-smaller
rounds-smaller c = let more : peeled_count c.rounds.peeled < peeled_count c.peel_each.new.peeled = search rules in omega (arith, count_within c.peel_each.new.peeled)
