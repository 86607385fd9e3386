use Rattle.std.proofs.Common.{◌≡◌, ◌∙◌, ap, ap₂, sym, cond, None, Option, List, ℕ, Bool, ◌%◌, sum_by}
use Rattle.packet_spec.specs.Choosing.{item_at}
use Rattle.pkt_walk.proofs.Totals.{mod_told, some_told}
use Rattle.pkt_walk.proofs.weights.chosen.Goals as goal

pub returns : goal.returns
returns g c =
    let w = g.T.Weighted.weighs in
    let items = c.args.items.now in
    let sum = sum_by w items in
    c.item_at.ensures
    ∙ ap₂ (item_at w) (c.remainder.ensures ∙ mod_told c.args.hash sum c.total-total.result c.total-total.ensures c.ranges.hash.fits) c.as_slice.ensures
    ∙ sym (ap (λ (b : Bool). cond b None (item_at w (c.args.hash % sum) items)) (some_told sum c.total-total.result c.total-total.ensures c.if-total-eq0.false))
