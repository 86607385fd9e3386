use Rattle.std.proofs.Common.{◌≡◌, ◌++◌, drop, string_bytes}
use Rattle.std.specs.List.{flat_map}
use Rattle.run_spec.specs.ReportText.{notice_line}
use Rattle.tape_form.proofs.report.journal.push_notices.Given as goal

abbrev pub invariant-loop-notice : goal.invariant-loop-notice
invariant-loop-notice l =
    string_bytes l.out ++ flat_map notice_line (drop l.notice-index l.notices) ≡ string_bytes l.initial.out ++ flat_map notice_line l.notices
