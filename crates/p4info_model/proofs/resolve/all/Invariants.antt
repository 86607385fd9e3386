use Rattle.std.proofs.Common.{◌≡◌, ◌++◌, map, All}
use Rattle.std.specs.Vec.Iter.{into_iter_items}
use Rattle.p4info_model.proofs.resolve.all.Given as goal

abbrev pub invariant-loop-message : goal.invariant-loop-message
invariant-loop-message g l = (l.objects ++ map g.M.Resolve.meaning (into_iter_items l.message-iterator) ≡ map g.M.Resolve.meaning l.fn.messages) × All g.M.Resolve.sizes l.objects
