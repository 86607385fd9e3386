use Rattle.std.proofs.Common.{◌≡◌, ◌+◌, ◌*◌, length, ap, sym, arith}
use Rattle.counter_bank.specs.Figures.{place}
use Rattle.counter_bank.proofs.Places.{found}
use Rattle.counter_bank.proofs.Spread.{whole_within, no_packets, no_bytes}
use Rattle.counter_bank.proofs.totals.Totals.get.Goals as goal

pub returns-then-slot-self : goal.returns-then-slot-self
returns-then-slot-self c =
    let long : length c.args.self.now ≡ 2 * c.self.inside.places = omega (arith, ap length c.self.view_is, c.self.invariant.2) in
    let packets = no_packets c.args.self.now c.args.slot c.self.inside.places long c.self.invariant.3 (omega (arith, c.if-slot-self.true)) in
    let bytes = no_bytes c.args.self.now c.args.slot c.self.inside.places long c.self.invariant.3 (omega (arith, c.if-slot-self.true)) in
    λ i. (sym packets i, sym bytes i)

pub word-requires : goal.word-requires
word-requires c = (omega (arith, c.place-at.ensures.place, whole_within c.args.slot c.self.inside.places c.self.invariant.3 (omega (arith, c.if-slot-self.false)), c.self.invariant.2), c.self.invariant.0)

pub word-requires-2 : goal.word-requires-2
word-requires-2 c = (omega (arith, c.place-at.ensures.place, whole_within c.args.slot c.self.inside.places c.self.invariant.3 (omega (arith, c.if-slot-self.false)), c.self.invariant.2), c.self.invariant.0)

pub returns : goal.returns
returns c =
    let at = 2 * place c.args.slot in
    λ i. (found _ _ at _ c.self.view_is (rw c.place-at.ensures.place at c.word.ensures) i, found _ _ (at + 1) _ c.self.view_is (rw c.place-at.ensures.place at c.word-2.ensures) i)
