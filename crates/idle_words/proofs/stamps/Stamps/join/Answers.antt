use Rattle.std.proofs.Common.{ap, sym, ◌∙◌, arith}
use Rattle.counter_bank.proofs.Spread.{some_places}
use Rattle.idle_words.proofs.Keeping.{joins}
use Rattle.idle_words.proofs.stamps.Stamps.join.Goals as goal

pub join_seat-requires : goal.join_seat-requires
join_seat-requires c =
    let id = sym (ap (λ s. s.id) c.self.view_is) in
    let table = ap (λ a. a.stamps) c.seat.view_is ∙ c.requires.stamps ∙ id in
    let other = ap (λ a. a.stamps) c.other.view_is ∙ c.requires.other ∙ id in
    (table, other, c.other.invariant.0, omega (arith, c.self.invariant.1, some_places c.self.inside.count c.self.invariant.3), joins _ _ _ _ _)
