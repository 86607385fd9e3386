use Rattle.std.proofs.Common.{ap, sym, ◌∙◌, subst, arith}
use Rattle.counter_bank.proofs.Keeping.{notes}
use Rattle.counter_bank.specs.Figures.{places, packets_of, bytes_of, AtMost}
use Rattle.counter_bank.specs.Account.{Account, after_note}
use Rattle.counter_bank.specs.Counting.{account}
use Rattle.counter_bank.proofs.Loading.{figures_are, since_noted, own_noted, only_noted}
use Rattle.counter_bank.proofs.Spread.{within}
use Rattle.counter_bank.proofs.bank.Bank.load.Goals as goal

pub load-packets-requires : goal.load-packets-requires
load-packets-requires c =
    let table = ap (λ a. a.bank) c.seat.view_is ∙ c.requires.bank ∙ sym (ap (λ b. b.id) c.self.view_is) in
    let slots = ap (λ b. b.slots) c.self.view_is in
    (table, omega (arith, within c.args.slot _ c.requires.slot, c.place-at.ensures.place, ap (λ n. places n) slots, c.self.invariant.1), notes _ _ _ _ _ (omega (arith, within c.args.slot _ c.requires.slot, c.place-at.ensures.place, ap (λ n. places n) slots, c.self.invariant.0)))

pub load-bytes-requires : goal.load-bytes-requires
load-bytes-requires c =
    let table = ap (λ a. a.bank) c.seat.view_is ∙ c.requires.bank ∙ sym (ap (λ b. b.id) c.self.view_is) in
    let slots = ap (λ b. b.slots) c.self.view_is in
    (c.load-packets.ensures.0 ∙ table, omega (arith, within c.args.slot _ c.requires.slot, c.place-at.ensures.place, ap (λ n. places n) slots, c.self.invariant.1), notes _ _ _ _ _ (omega (arith, within c.args.slot _ c.requires.slot, c.place-at.ensures.place, ap (λ n. places n) slots, c.self.invariant.0)))

pub returns-clause-figures : goal.returns-clause-figures
returns-clause-figures c = figures_are c.args.slot _ _ _ _ _ (rw c.place-at.ensures.place at c.load-packets.ensures.2.0) (rw c.place-at.ensures.place at c.load-bytes.ensures.2.0)

pub returns-clause-since : goal.returns-clause-since
returns-clause-since c =
    let now = c.load-bytes.new.seat.me.0 in
    subst (λ (a : Account). AtMost a.noted now.noted c.args.slot) c.seat.view_is (since_noted c.args.slot _ _ _ _ _ (rw c.place-at.ensures.place at c.load-packets.ensures.2.0) (rw c.place-at.ensures.place at c.load-bytes.ensures.2.0))

pub returns-clause-own : goal.returns-clause-own
returns-clause-own c =
    let now = c.load-bytes.new.seat.me.0 in
    subst (λ (a : Account). AtMost a.added now.noted c.args.slot) c.seat.view_is (own_noted c.args.slot _ _ _ _ _ (rw c.place-at.ensures.place at c.load-packets.ensures.2.0) (rw c.place-at.ensures.place at c.load-bytes.ensures.2.0))

pub returns-clause-same : goal.returns-clause-same
returns-clause-same c =
    let now = c.load-bytes.new.seat.me.0 in
    let table = c.load-bytes.ensures.0 ∙ c.load-packets.ensures.0 in
    let view = only_noted c.args.slot _ _ _ _ _ (rw c.place-at.ensures.place at c.load-packets.ensures.2.0) (rw c.place-at.ensures.place at c.load-bytes.ensures.2.0) in
    (λ i. account (table i) (view i)) ∙ ap (λ a. after_note a c.args.slot (packets_of now.noted c.args.slot) (bytes_of now.noted c.args.slot)) c.seat.view_is
