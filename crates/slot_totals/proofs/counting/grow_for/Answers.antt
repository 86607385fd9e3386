use Rattle.std.proofs.Common.{◌∙◌, subst, length}
use Rattle.std.specs.List.{All}
use Rattle.slot_totals.specs.Totals.{IsWithin, slot_of}
use Rattle.slot_totals.proofs.Counted.{more_within, taken_whole}
use Rattle.slot_totals.proofs.counting.grow_for.Goals as goal

pub returns-in_err-grow-clause-under : goal.returns-in_err-grow-clause-under
returns-in_err-grow-clause-under c packets bytes h = c.grow.ensures.under packets bytes (c.loop-hit.invariant.under packets bytes h)

pub loop-hit-preserved : goal.loop-hit-preserved
loop-hit-preserved c = record {
  figures = λ at. c.grow.ensures.figures at ∙ c.loop-hit.invariant.figures at;
  under = λ packets bytes h. c.grow.ensures.under packets bytes (c.loop-hit.invariant.under packets bytes h);
  few = λ h. c.grow.ensures.few (c.loop-hit.invariant.few h);
  within = more_within _ _ _ _ _ _ c.grow.ensures.longer c.loop-hit-test.true c.slot_of.ensures c.in_ok-grow.ensures.ok c.loop-hit.invariant.within;
}

pub returns-clause-ok : goal.returns-clause-ok
returns-clause-ok c =
    subst (All (λ hit. IsWithin (length c.loop-hit.counts.items) (slot_of hit))) (taken_whole c.loop-hit.hit-index c.args.hits.now c.loop-hit-test.false) c.loop-hit.invariant.within
