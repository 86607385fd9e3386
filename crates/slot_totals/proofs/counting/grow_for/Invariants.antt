use Rattle.std.proofs.Common.{◌≡◌, ◌≤◌, ◌^◌, ℕ, take, length}
use Rattle.std.specs.List.{All}
use Rattle.slot_totals.specs.Totals.{figures_in, AreUnder, IsWithin, slot_of}
use Rattle.slot_totals.proofs.counting.grow_for.Given as goal

abbrev pub invariant-loop-hit : goal.invariant-loop-hit
invariant-loop-hit l = record {
  figures : (at : ℕ) → figures_in l.counts.items at ≡ figures_in l.initial.counts.items at;
  under : (packets bytes : ℕ) → AreUnder packets bytes l.initial.counts.items → AreUnder packets bytes l.counts.items;
  few : length l.initial.counts.items ≤ 2 ^ 32 → length l.counts.items ≤ 2 ^ 32;
  within : All (λ hit. IsWithin (length l.counts.items) (slot_of hit)) (take l.hit-index l.hits);
}
