use Rattle.std.proofs.Common.{string_bytes}
use Rattle.tape_form.proofs.Joining.{report_written}
use Rattle.tape_form.proofs.report.push_report.Goals as goal

pub returns : goal.returns
returns c =
    report_written c.args.report.now (string_bytes c.args.out.now) (string_bytes c.push_journal.new.out) (string_bytes c.push_lines.new.out) (string_bytes c.push_packets.new.out) (string_bytes c.push_lines-2.new.out)
    (string_bytes c.push_lines-3.new.out) (string_bytes c.push_end.new.out) (rw c.as_slice.ensures at c.in_ok-steps.ensures.text) (rw c.as_slice-2.ensures at c.in_ok-push_lines.ensures)
    (rw c.as_slice-3.ensures at c.in_ok-push_packets.ensures) (rw c.as_slice-4.ensures at c.in_ok-push_lines-2.ensures) (rw c.as_slice-5.ensures at c.in_ok-push_lines-3.ensures)
    (rw (c.in_ok-steps.ensures.count, c.as_slice.ensures, c.len.ensures) at c.in_ok-push_end.ensures)
