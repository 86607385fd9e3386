use Rattle.std.proofs.Common.{◌+◌, ◌*◌, ap, ◌∙◌, subst, arith}
use Rattle.std.specs.Slots.{slots_items}
use Rattle.counter_bank.specs.Account.{Account, AreTotals, NoneAbove}
use Rattle.counter_bank.specs.Figures.{place, places}
use Rattle.counter_bank.proofs.Keeping.{closes}
use Rattle.counter_bank.proofs.Spread.{within, places_whole}
use Rattle.counter_bank.proofs.bank.close_with.Goals as goal

pub returns-clause-totals : goal.returns-clause-totals
returns-clause-totals c =
    let slots = ap (λ b. b.slots) c.bank.view_is in
    let all = ap (λ a. a.parts) c.seat.view_is ∙ c.requires.parts in
    let ended = closes _ _ _ _ _ all c.close_with.ensures.values.2 in
    let added = ap (λ a. a.added) c.seat.view_is in
    subst (λ l. AreTotals (slots_items c.close_with.result.words) c.args.bank.slots l) added (λ slot h i. (ended.1 (2 * place slot) (omega (arith, within slot _ h, ap (λ n. places n) slots, c.bank.invariant.0)) i, ended.1 (2 * place slot + 1) (omega (arith, within slot _ h, ap (λ n. places n) slots, c.bank.invariant.0)) i))

pub returns-clause-noted : goal.returns-clause-noted
returns-clause-noted c =
    let all = ap (λ a. a.parts) c.seat.view_is ∙ c.requires.parts in
    let ended = closes _ _ _ _ _ all c.close_with.ensures.values.2 in
    subst (λ (a : Account). NoneAbove a.noted a.added) c.seat.view_is (λ slot. (ended.2 (2 * place slot), ended.2 (2 * place slot + 1)))

pub places-requires : goal.places-requires
places-requires c = c.bank.invariant.4

pub invariant_of-result : goal.invariant_of-result
invariant_of-result c = (
  c.close_with.ensures.values.0,
  c.close_with.ensures.counts.1 ∙ c.bank.invariant.2,
  omega (arith, c.close_with.ensures.counts.0, c.bank.invariant.1, c.places.ensures),
  rw c.places.ensures (places_whole c.bank.inside.slots),
)
