use Rattle.std.proofs.Common.{◌≡◌, map, take}
use Rattle.bm_rules.proofs.twice.ids_of.Given as goal

abbrev pub invariant-loop-action : goal.invariant-loop-action
invariant-loop-action l = l.ids.items ≡ map (λ x. x.id) (take l.action-index l.actions)
