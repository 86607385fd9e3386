use Rattle.std.proofs.Common.{◌≡◌, ◌+◌, ◌++◌, drop, string_bytes}
use Rattle.run_spec.specs.ReportText.{step_lines}
use Rattle.tape_form.proofs.report.journal.push_steps.Given as goal

abbrev pub invariant-loop-step : goal.invariant-loop-step
invariant-loop-step l = record {
  text : string_bytes l.out ++ step_lines l.number l.lane l.call (drop l.step-index l.steps) ≡ string_bytes l.initial.out ++ step_lines l.before l.lane l.call l.steps;
  count : l.number ≡ l.before + l.step-index;
}
