use Rattle.std.proofs.Common.{List, sym, subst, arith}
use Rattle.row_index.specs.declared.asks.Ask.{Ask}
use Rattle.row_index.specs.Asks.{Takes}
use Rattle.row_index.proofs.Asking.{AreOrdered, takes_at, ordered_remove, placed_any, found_within}
use Rattle.row_index.proofs.asks.take.Goals as goal

pub remove-requires : goal.remove-requires
remove-requires c = let lt = found_within c.args.asks.now.items c.in-Some.place c.args.shape (sym (rw c.as_slice.ensures.value at c.in-Some.ensures)) in omega (arith, lt, c.args.asks.now.ok.0)

pub returns-in-Some-clause-order : goal.returns-in-Some-clause-order
returns-in-Some-clause-order c =
    let found = sym (rw c.as_slice.ensures.value at c.in-Some.ensures) in
    subst AreOrdered (sym c.remove.ensures.items) (ordered_remove c.args.asks.now.items c.in-Some.place (found_within c.args.asks.now.items c.in-Some.place c.args.shape found) c.requires.order)

pub returns-in-Some-clause-takes : goal.returns-in-Some-clause-takes
returns-in-Some-clause-takes c =
    let found = sym (rw c.as_slice.ensures.value at c.in-Some.ensures) in
    subst (λ (new : List Ask). Takes c.args.asks.now.items new c.args.shape) (sym c.remove.ensures.items) (takes_at c.args.asks.now.items c.in-Some.place c.args.shape c.requires.there.1 found)

pub returns-in-None-clause-takes : goal.returns-in-None-clause-takes
returns-in-None-clause-takes c = absurd (placed_any c.args.asks.now.items c.args.shape c.requires.there (sym (rw c.as_slice.ensures.value at c.in-None.ensures)))
