use Rattle.std.proofs.Common.{◌≡◌}
use Rattle.std.specs.Prelude.{drop}
use Rattle.packet_spec.specs.Choosing.{item_at}
use Rattle.pkt_walk.proofs.weights.item_at.Given as goal

abbrev pub invariant-loop-item : goal.invariant-loop-item
invariant-loop-item g l = item_at g.T.Weighted.weighs l.number (drop l.item-index l.items) ≡ item_at g.T.Weighted.weighs l.initial.number l.items
