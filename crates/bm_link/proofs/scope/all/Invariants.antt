use Rattle.std.proofs.Common.{◌≡◌, map, take}
use Rattle.bm_link.proofs.scope.all.Given as goal

abbrev pub invariant-loop-item : goal.invariant-loop-item
invariant-loop-item g l = l.linked ≡ map (g.M.Link.meaning l.scope.fields.raw.now l.scope.info.now) (take l.item-index l.items)
