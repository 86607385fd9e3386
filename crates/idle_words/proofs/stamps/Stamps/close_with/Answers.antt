use Rattle.std.proofs.Common.{ap, ◌∙◌, subst, arith}
use Rattle.std.specs.Slots.{slots_items}
use Rattle.counter_bank.specs.Figures.{place, places}
use Rattle.counter_bank.proofs.Spread.{within, places_whole}
use Rattle.idle_words.specs.Moments.{NoneAbove}
use Rattle.idle_words.specs.Account.{Account, AreLast}
use Rattle.idle_words.proofs.Keeping.{closes}
use Rattle.idle_words.proofs.stamps.Stamps.close_with.Goals as goal

pub returns-clause-last : goal.returns-clause-last
returns-clause-last c =
    let count = ap (λ s. s.count) c.self.view_is in
    let all = ap (λ a. a.parts) c.seat.view_is ∙ c.requires.parts in
    let ended = closes _ _ _ _ _ all c.close_with.ensures.values.2 in
    let touched = ap (λ a. a.touched) c.seat.view_is in
    subst (λ l. AreLast (slots_items c.close_with.result.words) c.args.self.count l) touched (λ stamp h. ended.1 (place stamp) (omega (arith, within stamp _ h, ap (λ n. places n) count, c.self.invariant.0)))

pub returns-clause-noted : goal.returns-clause-noted
returns-clause-noted c =
    let all = ap (λ a. a.parts) c.seat.view_is ∙ c.requires.parts in
    let ended = closes _ _ _ _ _ all c.close_with.ensures.values.2 in
    subst (λ (a : Account). NoneAbove a.noted a.touched) c.seat.view_is (λ stamp. ended.2 (place stamp))

pub places-requires : goal.places-requires
places-requires c = c.self.invariant.4

pub invariant_of-result : goal.invariant_of-result
invariant_of-result c = (
  c.close_with.ensures.values.0,
  c.close_with.ensures.counts.1 ∙ c.self.invariant.2,
  omega (arith, c.close_with.ensures.counts.0, c.self.invariant.1, c.places.ensures),
  rw c.places.ensures (places_whole c.self.inside.count),
)
