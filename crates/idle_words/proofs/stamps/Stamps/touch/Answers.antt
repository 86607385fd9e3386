use Rattle.std.proofs.Common.{ap, sym, ◌∙◌, arith}
use Rattle.counter_bank.specs.Figures.{places}
use Rattle.counter_bank.proofs.Spread.{within}
use Rattle.idle_words.proofs.Keeping.{touches}
use Rattle.idle_words.proofs.stamps.Stamps.touch.Goals as goal

pub fetch_max-requires : goal.fetch_max-requires
fetch_max-requires c =
    let table = ap (λ a. a.stamps) c.seat.view_is ∙ c.requires.stamps ∙ sym (ap (λ s. s.id) c.self.view_is) in
    let count = ap (λ s. s.count) c.self.view_is in
    (table, omega (arith, within c.args.stamp _ c.requires.stamp, c.place-at.ensures.place, ap (λ n. places n) count, c.self.invariant.1), touches _ _ _ _ _ _ (omega (arith, within c.args.stamp _ c.requires.stamp, c.place-at.ensures.place, ap (λ n. places n) count, c.self.invariant.0)) c.seat.invariant.1)
