use Rattle.std.proofs.Common.{◌≡◌, ◌*◌, length, ap, arith}
use Rattle.counter_bank.proofs.Spread.{no_packets, no_bytes}
use Rattle.counter_bank.proofs.totals.Totals.slots.Goals as goal

pub returns : goal.returns
returns c = λ slot le.
    let long : length c.args.self.now ≡ 2 * c.self.inside.places = omega (arith, ap length c.self.view_is, c.self.invariant.2) in
    let packets = no_packets c.args.self.now slot c.self.inside.places long c.self.invariant.3 le in
    let bytes = no_bytes c.args.self.now slot c.self.inside.places long c.self.invariant.3 le in
    λ i. (packets i, bytes i)
