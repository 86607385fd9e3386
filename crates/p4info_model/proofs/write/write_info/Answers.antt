use Rattle.std.proofs.Common.{◌≡◌, ap, subst, sym, ◌∙◌, length, ◌<◌, ◌^◌, rules}
use Rattle.p4v1_wire.specs.InfoRows.{info_rows, InfoInRange}
use Rattle.p4v1_wire.specs.Rows.{fields_by}
use Rattle.wire_fields.specs.Spelling.{spelling}
use Rattle.p4info_model.specs.Answers.{IsReadAs}
use Rattle.p4info_model.proofs.Back.{read_again}
use Rattle.p4info_model.proofs.write.write_info.Goals as goal

pub returns-clause-read_back : goal.returns-clause-read_back
returns-clause-read_back c =
    let fits : InfoInRange c.args.info.now = subst InfoInRange c.info.ensures.objects c.in_ok-bytes.ensures.in_range in
    let is : c.in_ok-bytes.bytes ≡ spelling (fields_by info_rows c.args.info.now) = c.in_ok-bytes.ensures.ok ∙ ap (λ i. spelling (fields_by info_rows i)) c.info.ensures.objects in
    let short : length c.in_ok-bytes.bytes < 2 ^ 64 = search rules in
    subst (λ b. length b < 2 ^ 64 → IsReadAs b c.args.info.now) (sym is) (read_again c.args.info.now c.info.ensures.made c.info.ensures.valid c.info.ensures.sizes fits) short
