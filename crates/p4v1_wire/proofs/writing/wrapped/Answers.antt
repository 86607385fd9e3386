use Rattle.std.proofs.Common.{◌≡◌, ℕ, ◌∙◌, ap, refl, Some, List, [], ◌∷◌, ◌++◌}
use Rattle.wire_fields.specs.Fields.{Bytes}
use Rattle.wire_fields.specs.Spelling.{spelling}
use Rattle.wire_messages.specs.Written.{Value, Message, Present, Row, row, row_bytes, written}
use Rattle.wire_messages.proofs.ReadBack.{row_by_row}
use Rattle.wire_messages.proofs.WrittenBytes.{one_field}
use Rattle.p4v1_wire.specs.Rows.{fields_by}
use Rattle.p4v1_wire.proofs.writing.wrapped.Goals as goal

pub returns-clause-ok : goal.returns-clause-ok
returns-clause-ok g c =
    let value : Value = Message (Some (fields_by g.M.Writable.rows c.args.inner.now)) in
    let rows : List Row = row 1 value ∷ [] in
    let inside : c.message.new.writer ≡ spelling (written rows) = c.in_ok-message.ensures.ok ∙ ap (λ (bytes : List ℕ). bytes ++ row_bytes 1 value) c.new-inside.ensures ∙ row_by_row [] rows in
    rw (one_field c.args.number (Present (Some (written rows))) (Bytes (spelling (written rows))) refl, ← inside, ← c.as_slice.ensures) c.bytes.ensures.ok
