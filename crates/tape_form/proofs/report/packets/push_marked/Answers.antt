use Rattle.std.proofs.Common.{◌≡◌, ◌++◌, ◌∙◌, [], false, get_or, append-nil, ap, sym, arith, string_bytes}
use Rattle.std.specs.List.{flat_map}
use Rattle.run_spec.specs.ReportText.{packet_line}
use Rattle.switch_spec.specs.Carrying.{records_of}
use Rattle.tape_form.specs.LaneLines.{mark_place}
use Rattle.tape_form.proofs.Marks.{none_of}
use Rattle.tape_form.proofs.report.packets.push_marked.Goals as goal

pub returns-then-not-marks-mark_place : goal.returns-then-not-marks-mark_place
returns-then-not-marks-mark_place c =
    let marks = c.args.marks.now in
    let absent : get_or marks (mark_place c.args.lane) false ≡ false = grind (arith, c.mark_place.ensures, c.if-not-marks-mark_place.true) in
    let none : records_of c.args.lane c.args.records.now ≡ [] = none_of marks c.args.lane c.args.records.now c.requires.place absent c.requires.marked in
    sym (append-nil (string_bytes c.args.out.now)) ∙ ap (λ l. string_bytes c.args.out.now ++ flat_map packet_line l) (sym none)
