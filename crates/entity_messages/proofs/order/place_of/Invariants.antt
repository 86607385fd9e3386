use Rattle.std.proofs.Common.{◌≡◌, ◌++◌, take, drop}
use Rattle.plane_spec.specs.Shown.{placed}
use Rattle.entity_messages.proofs.order.place_of.Given as goal

abbrev pub invariant-loop-place : goal.invariant-loop-place
invariant-loop-place g l = take l.place l.items ++ placed g.T.Numbered.key l.item (drop l.place l.items) ≡ placed g.T.Numbered.key l.item l.items
