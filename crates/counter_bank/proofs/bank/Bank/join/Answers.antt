use Rattle.std.proofs.Common.{ap, sym, ◌∙◌, arith}
use Rattle.counter_bank.proofs.Keeping.{joins}
use Rattle.counter_bank.proofs.Spread.{some_places}
use Rattle.counter_bank.proofs.bank.Bank.join.Goals as goal

pub join_seat-requires : goal.join_seat-requires
join_seat-requires c =
    let bank = sym (ap (λ b. b.id) c.self.view_is) in
    let table = ap (λ a. a.bank) c.seat.view_is ∙ c.requires.bank ∙ bank in
    let other = ap (λ a. a.bank) c.other.view_is ∙ c.requires.other ∙ bank in
    (table, other, c.other.invariant.0, omega (arith, c.self.invariant.1, some_places c.self.inside.slots c.self.invariant.3), joins _ _ _ _ _)
