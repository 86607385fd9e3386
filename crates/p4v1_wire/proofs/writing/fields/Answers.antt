use Rattle.std.proofs.Common.{◌∙◌, ap, []}
use Rattle.wire_messages.specs.Written.{with_rows}
use Rattle.wire_messages.proofs.ReadBack.{row_by_row}
use Rattle.p4v1_wire.proofs.writing.fields.Goals as goal

pub returns-clause-ok : goal.returns-clause-ok
returns-clause-ok g c =
    let rows = g.M.Writable.rows c.args.message.now in
    c.in_ok-write.ensures.ok ∙ ap (λ bytes. with_rows bytes rows) c.new-writer.ensures ∙ row_by_row [] rows
