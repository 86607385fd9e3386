use Rattle.std.proofs.Common.{◌≡◌, ◌≤◌, ◌+◌, ◌-◌, ◌*◌, ◌^◌, ◌++◌, drop, length, sum_by, string_bytes}
use Rattle.run_spec.specs.ReportText.{journal_lines}
use Rattle.tape_form.proofs.report.journal.push_journal.Given as goal

abbrev pub invariant-loop-entry : goal.invariant-loop-entry
invariant-loop-entry l = record {
  text : string_bytes l.out ++ journal_lines l.steps (drop l.entry-index l.journal) ≡ string_bytes l.initial.out ++ journal_lines 0 l.journal;
  count : l.steps + sum_by (λ entry. length entry.steps) (drop l.entry-index l.journal) ≡ sum_by (λ entry. length entry.steps) l.journal;
  few : l.steps ≤ l.entry-index * (2 ^ 64 - 1);
}
