use Rattle.std.proofs.Common.{ap, sym, ◌∙◌, arith}
use Rattle.counter_bank.proofs.Spread.{some_places}
use Rattle.idle_words.proofs.Keeping.{splits}
use Rattle.idle_words.proofs.stamps.Stamps.split.Goals as goal

pub split_seat-given-requires : goal.split_seat-given-requires
split_seat-given-requires c =
    let table = ap (λ a. a.stamps) c.seat.view_is ∙ c.requires.stamps ∙ sym (ap (λ s. s.id) c.self.view_is) in
    let parts = ap (λ a. a.parts) c.seat.view_is in
    (table, omega (arith, c.self.invariant.1, some_places c.self.inside.count c.self.invariant.3), splits _ _ _ (omega (arith, parts, c.requires.parts)))
