use Rattle.std.proofs.Common.{◌≡◌, ◌++◌}
use Rattle.std.specs.Vec.Iter.{into_iter_items}
use Rattle.tape_lanes.specs.Lanes.{by_lane, calls_in, items_in}
use Rattle.tape_lanes.proofs.dealing.deal.Given as goal

abbrev pub invariant-loop-item : goal.invariant-loop-item
invariant-loop-item l = record {
  calls : l.calls.items ≡ by_lane (calls_in l.yielded) 32;
  items : l.items.items ≡ by_lane (items_in l.yielded) 16;
  all : l.yielded ++ into_iter_items l.item-iterator ≡ l.fn.tape;
}
