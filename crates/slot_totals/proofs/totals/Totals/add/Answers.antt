use Rattle.std.proofs.Common.{length, ap, arith}
use Rattle.slot_totals.proofs.Counted.{wider, few_bytes}
use Rattle.slot_totals.proofs.totals.Totals.add.Goals as goal

pub invariant_of-self : goal.invariant_of-self
invariant_of-self c = record { under = c.grow_for.ensures.under _ _ c.self.invariant.under; slots = c.grow_for.ensures.few c.self.invariant.slots }

pub count_hits-requires-clause-under : goal.count_hits-requires-clause-under
count_hits-requires-clause-under c =
    let packets = ap (λ totals. totals.packets) c.self.view_is in
    wider _ _ _ _ _ (omega arith) (omega arith) (c.grow_for.ensures.under _ _ c.self.invariant.under)

pub invariant_of-self-2 : goal.invariant_of-self-2
invariant_of-self-2 c =
    let bytes = few_bytes (length c.args.hits.now) 274560 c.args.bytes (omega arith) c.requires.short in
    let slots = c.grow_for.ensures.few c.self.invariant.slots in record {
      under = wider _ _ _ _ _ (omega arith) (omega arith) (c.count_hits.ensures.under _ _ (c.grow_for.ensures.under _ _ c.self.invariant.under));
      slots = omega (arith, slots, c.count_hits.ensures.len);
    }
