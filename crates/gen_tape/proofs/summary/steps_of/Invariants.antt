use Rattle.std.proofs.Common.{◌≡◌, ◌≤◌, ◌+◌, ◌-◌, ◌*◌, ◌^◌, drop, length, sum_by}
use Rattle.gen_tape.proofs.summary.steps_of.Given as goal

abbrev pub invariant-loop-entry : goal.invariant-loop-entry
invariant-loop-entry l = record {
  count : l.steps + sum_by (λ entry. length entry.steps) (drop l.entry-index l.journal) ≡ sum_by (λ entry. length entry.steps) l.journal;
  few : l.steps ≤ l.entry-index * (2 ^ 64 - 1);
}
