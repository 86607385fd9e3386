use Rattle.std.proofs.Common.{◌≡◌, ◌≤◌, replicate, vec_capacity}
use Rattle.bm_expr.proofs.store.refill.Given as goal

abbrev pub invariant-loop : goal.invariant-loop
invariant-loop g l = record {
  items : l.items.items ≡ replicate l.counter l.item;
  room : vec_capacity l.fn.items ≤ vec_capacity l.items;
}
