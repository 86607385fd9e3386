use Rattle.std.proofs.Common.{ap, sym, ◌∙◌, arith}
use Rattle.counter_bank.specs.Figures.{places}
use Rattle.counter_bank.proofs.Keeping.{adds}
use Rattle.counter_bank.proofs.Spread.{within}
use Rattle.counter_bank.proofs.bank.Bank.hit.Goals as goal

pub fetch_add-requires : goal.fetch_add-requires
fetch_add-requires c =
    let table = ap (λ a. a.bank) c.seat.view_is ∙ c.requires.bank ∙ sym (ap (λ b. b.id) c.self.view_is) in
    let slots = ap (λ b. b.slots) c.self.view_is in
    (table, omega (arith, within c.args.slot _ c.requires.slot, c.place-at.ensures.place, ap (λ n. places n) slots, c.self.invariant.1), adds _ _ _ _ _ _ (omega (arith, within c.args.slot _ c.requires.slot, c.place-at.ensures.place, ap (λ n. places n) slots, c.self.invariant.0)) c.seat.invariant.1)

pub fetch_add-requires-2 : goal.fetch_add-requires-2
fetch_add-requires-2 c =
    let table = ap (λ a. a.bank) c.seat.view_is ∙ c.requires.bank ∙ sym (ap (λ b. b.id) c.self.view_is) in
    let slots = ap (λ b. b.slots) c.self.view_is in
    let parts = ap (λ m. m.0.parts) c.fetch_add.ensures.2 in
    (c.fetch_add.ensures.0 ∙ table, omega (arith, within c.args.slot _ c.requires.slot, c.place-at.ensures.place, ap (λ n. places n) slots, c.self.invariant.1), adds _ _ _ _ _ _ (omega (arith, within c.args.slot _ c.requires.slot, c.place-at.ensures.place, ap (λ n. places n) slots, c.self.invariant.0)) (omega (arith, parts, c.seat.invariant.1)))
