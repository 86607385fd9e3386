-- Messages by their rows.
use Rattle.std.specs.Prelude.{List}
use Rattle.wire_fields.specs.Fields.{WireField}
use Rattle.wire_messages.specs.Written.{Row, written}

-- the fields that a message is written as, by its rows
abbrev pub fields_by : {A : Type 0} → (A → List Row) → A → List WireField
fields_by rows message = written (rows message)
