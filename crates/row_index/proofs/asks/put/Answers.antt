use Rattle.std.proofs.Common.{List, sym, subst}
use Rattle.row_index.specs.declared.asks.Ask.{Ask}
use Rattle.row_index.specs.Asks.{Puts}
use Rattle.row_index.proofs.Asking.{AreOrdered, ordered_insert, puts_insert}
use Rattle.row_index.proofs.asks.put.Goals as goal

pub returns-clause-order : goal.returns-clause-order
returns-clause-order c =
    let place = rw c.as_slice.ensures.value at c.place_for-place.ensures in
    subst AreOrdered (sym c.in-Ok.ensures.items) (ordered_insert c.args.asks.now.items c.place_for-place.result c.args.ask place.within c.requires.order place.below place.above)

pub returns-clause-puts : goal.returns-clause-puts
returns-clause-puts c =
    let place = rw c.as_slice.ensures.value at c.place_for-place.ensures in
    subst (λ (new : List Ask). Puts c.args.asks.now.items new c.args.ask) (sym c.in-Ok.ensures.items) (puts_insert c.args.asks.now.items c.place_for-place.result c.args.ask place.within)
