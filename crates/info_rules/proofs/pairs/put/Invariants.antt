use Rattle.std.proofs.Common.{◌≡◌, take}
use Rattle.info_rules.specs.Pairs.{joined}
use Rattle.info_rules.proofs.pairs.put.Given as goal

abbrev pub invariant-loop-pair : goal.invariant-loop-pair
invariant-loop-pair l = l.pairs.keys ≡ joined l.initial.pairs.keys (take l.pair-index l.given)
