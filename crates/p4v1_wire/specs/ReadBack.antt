-- Laws of messages: what is written is read back. An optional message whose fields are all defaults is left out, and counts as not given.
use Rattle.std.specs.Prelude.{◌≡◌, ◌^◌, ◌<◌, List, [], ◌∷◌, length, Option, Some, None}
use Rattle.wire_fields.specs.Fields.{WireField}
use Rattle.wire_fields.specs.Spelling.{spelling}
use Rattle.wire_messages.specs.Written.{Row}
use Rattle.p4v1_read.specs.Nested.{read}
use Rattle.p4v1_wire.specs.Rows.{fields_by}

-- Each message in range, as its canonical bytes (of which there are fewer than 2^64), is read as this.
abbrev pub IsReadBack : {A B : Type 0} → (List WireField → Option B) → (A → List Row) → (A → Type 0) → (A → B) → Type 0
IsReadBack {A} meaning rows InRange meant = (message : A) → InRange message → length (spelling (fields_by rows message)) < 2 ^ 64 → read meaning (spelling (fields_by rows message)) ≡ Some (meant message)

-- a message that has a field, else none
abbrev pub where_fields : {B : Type 0} → List WireField → B → Option B
where_fields [] message = None
where_fields (field ∷ fields) message = Some message

-- an optional message, which counts as not given where all its fields are defaults
abbrev pub counted : {A B : Type 0} → (A → List Row) → (A → B) → Option A → Option B
counted rows meant None = None
counted rows meant (Some message) = where_fields (fields_by rows message) (meant message)

-- the message itself
abbrev pub itself : {A : Type 0} → A → A
itself message = message
