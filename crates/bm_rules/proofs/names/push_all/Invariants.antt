use Rattle.std.proofs.Common.{◌≡◌, ◌++◌, map, take}
use Rattle.bm_rules.proofs.names.push_all.Given as goal

abbrev pub invariant-loop-object : goal.invariant-loop-object
invariant-loop-object g l = map (λ x. x.now) l.objects.items ≡ map (λ x. x.now) l.initial.objects.items ++ take l.object-index l.more
