use Rattle.std.proofs.Common.{◌≡◌, ◌≤◌, ◌+◌, cond, drop, not, sum_by}
use Rattle.gen_tape.specs.Summary.{is_sent}
use Rattle.gen_tape.proofs.summary.dropped_of.Given as goal

abbrev pub invariant-loop-one : goal.invariant-loop-one
invariant-loop-one l = record {
  count : l.count + sum_by (λ one. cond (not (is_sent one.fate)) 1 0) (drop l.one-index l.records) ≡ sum_by (λ one. cond (not (is_sent one.fate)) 1 0) l.records;
  few : l.count ≤ l.one-index;
}
