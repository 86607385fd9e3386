use Rattle.std.proofs.Common.{codes, string_bytes}
use Rattle.std.specs.Fmt.{decimal}
use Rattle.run_spec.specs.Text.{list_word, option_word}
use Rattle.run_spec.specs.ReportText.{who_word, fate_word, output_word, cpu_word, sample_word, mark_word}
use Rattle.tape_form.proofs.Joining.{packet_written}
use Rattle.tape_form.proofs.report.packets.RecordAsLine.push_line.Goals as goal

pub returns : goal.returns
returns c =
    let r = c.args.self.now in
    packet_written (string_bytes c.args.out.now) (string_bytes c.push_front.new.out) (string_bytes c.push_list.new.out) (string_bytes c.push_str.new.self) (string_bytes c.push_list-2.new.out) (string_bytes c.push_str-2.new.self)
    (string_bytes c.push_option.new.out) (string_bytes c.push_str-3.new.self) (string_bytes c.push_list-3.new.out) (string_bytes c.push_str-4.new.self)
    (codes "packet") (who_word r.who) (decimal r.index) (decimal r.steps) (fate_word r.fate) (list_word output_word r.outputs) (list_word cpu_word r.cpu) (option_word sample_word r.digest) (list_word mark_word r.hits)
    c.in_ok-push_front.ensures (rw c.as_slice.ensures at c.in_ok-push_list.ensures) c.in_ok-push_str.ensures.bytes (rw c.as_slice-2.ensures at c.in_ok-push_list-2.ensures) c.in_ok-push_str-2.ensures.bytes
    c.in_ok-push_option.ensures c.in_ok-push_str-3.ensures.bytes (rw c.as_slice-3.ensures at c.in_ok-push_list-3.ensures) c.in_ok-push_str-4.ensures.bytes
