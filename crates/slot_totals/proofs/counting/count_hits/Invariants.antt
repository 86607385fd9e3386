use Rattle.std.proofs.Common.{◌≡◌, ℕ, ◌+◌, ◌*◌, take, length}
use Rattle.switch_spec.specs.Counts.{figures_after}
use Rattle.slot_totals.specs.Totals.{figures_in, AreUnder}
use Rattle.slot_totals.proofs.counting.count_hits.Given as goal

abbrev pub invariant-loop-hit : goal.invariant-loop-hit
invariant-loop-hit l = record {
  len : length l.counts.items ≡ length l.initial.counts.items;
  figures : (at : ℕ) → figures_in l.counts.items at ≡ figures_after (figures_in l.initial.counts.items) (take l.hit-index l.hits) l.bytes at;
  under : (most longest : ℕ) → AreUnder most longest l.initial.counts.items → AreUnder (most + l.hit-index) (longest + l.hit-index * l.bytes) l.counts.items;
}
