use Rattle.std.proofs.Common.{◌≡◌, length, ap, sym, arith}
use Rattle.counter_bank.specs.Figures.{place}
use Rattle.counter_bank.proofs.Places.{found}
use Rattle.counter_bank.proofs.Spread.{whole_within}
use Rattle.idle_words.proofs.Stamping.{no_moment}
use Rattle.idle_words.proofs.last_stamps.LastStamps.get.Goals as goal

pub returns-then-stamp-self : goal.returns-then-stamp-self
returns-then-stamp-self c =
    let long : length c.args.self.now ≡ c.self.inside.places = omega (arith, ap length c.self.view_is, c.self.invariant.2) in
    sym (no_moment c.args.self.now c.args.stamp c.self.inside.places long c.self.invariant.3 (omega (arith, c.if-stamp-self.true)))

pub word-requires : goal.word-requires
word-requires c = (omega (arith, c.place.ensures.place, whole_within c.args.stamp c.self.inside.places c.self.invariant.3 (omega (arith, c.if-stamp-self.false)), c.self.invariant.2), c.self.invariant.0)

pub returns : goal.returns
returns c = found _ _ (place c.args.stamp) _ c.self.view_is (rw c.place.ensures.place at c.word.ensures)
