use Rattle.std.proofs.Common.{◌≡◌, ◌+◌, ◌*◌, length, ap, sym, ◌∙◌, subst, arith}
use Rattle.slot_totals.specs.Totals.{AreUnder, figures_in}
use Rattle.slot_totals.proofs.Counted.{wider, figures_more, under_more, counted_length, within_at, few_bytes}
use Rattle.slot_totals.proofs.counting.count_hits.Goals as goal

pub count_at-requires-clause-within : goal.count_at-requires-clause-within
count_at-requires-clause-within c = within_at _ _ _ _ _ _ (sym c.loop-hit.invariant.len) c.loop-hit-test.true c.slot_of.ensures c.requires.within

pub count_at-requires-clause-under : goal.count_at-requires-clause-under
count_at-requires-clause-under c =
    let bytes = few_bytes c.loop-hit.hit-index 274560 c.args.bytes (omega arith) c.requires.short in
    wider _ _ _ _ _ (omega arith) (omega arith) (c.loop-hit.invariant.under 9223372036854775808 13835058055282163712 c.requires.under)

pub loop-hit-preserved : goal.loop-hit-preserved
loop-hit-preserved c =
    let within = within_at _ _ _ _ _ _ (sym c.loop-hit.invariant.len) c.loop-hit-test.true c.slot_of.ensures c.requires.within in record {
      len = ap length c.count_at.ensures ∙ counted_length _ _ _ ∙ c.loop-hit.invariant.len;
      figures = λ at. figures_more (figures_in c.args.counts.now.items) c.args.bytes at _ _ _ _ _ _ c.loop-hit-test.true c.slot_of.ensures c.count_at.ensures within (c.loop-hit.invariant.figures at);
      under = λ most longest h. under_more most longest _ _ _ _ _ c.count_at.ensures within (c.loop-hit.invariant.under most longest h);
    }

pub returns-clause-under : goal.returns-clause-under
returns-clause-under c most longest h =
    let all : c.loop-hit.hit-index ≡ length c.args.hits.now = omega arith in
    subst (λ n. AreUnder (most + n) (longest + n * c.args.bytes) c.loop-hit.counts.items) all (c.loop-hit.invariant.under most longest h)
