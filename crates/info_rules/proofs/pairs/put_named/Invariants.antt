use Rattle.std.proofs.Common.{◌≡◌, take}
use Rattle.std.specs.BTreeSet.{insert_key}
use Rattle.std.specs.List.{fold}
use Rattle.info_rules.specs.Pairs.{pair_cmp}
use Rattle.info_rules.proofs.pairs.put_named.Given as goal

abbrev pub invariant-loop-id : goal.invariant-loop-id
invariant-loop-id g l = l.pairs.keys ≡ fold (λ before x. insert_key pair_cmp before (g.N.Naming.paired l.own x)) l.initial.pairs.keys (take l.id-index l.named)
