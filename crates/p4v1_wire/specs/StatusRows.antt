-- Rows of the messages of a failure, a line for each field.
use Rattle.std.specs.Prelude.{List, [], ◌∷◌, All, map}
use Rattle.p4_types.specs.declared.messages.Any.{Any}
use Rattle.p4_types.specs.declared.messages.Error.{Error}
use Rattle.p4_types.specs.declared.messages.Status.{Status}
use Rattle.wire_messages.specs.Written.{Int32, ByteString, Text, Messages, Row, row, RowsInRange}
use Rattle.p4v1_wire.specs.Rows.{fields_by}

-- google.protobuf.Any
unfoldable pub any_rows : Any → List Row
any_rows m =
    row 1 (Text m.type_url) ∷
    row 2 (ByteString m.value) ∷
    []

-- its numbers and texts are in the ranges of their types
unfoldable pub AnyInRange : Any → Type 0
AnyInRange m = RowsInRange (any_rows m)

-- google.rpc.Status
unfoldable pub status_rows : Status → List Row
status_rows m =
    row 1 (Int32 m.code) ∷
    row 2 (Text m.message) ∷
    row 3 (Messages (map (fields_by any_rows) m.details)) ∷
    []

-- its numbers and texts are in the ranges of their types
unfoldable pub StatusInRange : Status → Type 0
StatusInRange m = RowsInRange (status_rows m) × All AnyInRange m.details

-- p4.v1.Error
unfoldable pub error_rows : Error → List Row
error_rows m =
    row 1 (Int32 m.canonical_code) ∷
    row 2 (Text m.message) ∷
    row 3 (Text m.space) ∷
    row 4 (Int32 m.code) ∷
    row 5 (Messages (map (fields_by any_rows) m.details)) ∷
    []

-- its numbers and texts are in the ranges of their types
unfoldable pub ErrorInRange : Error → Type 0
ErrorInRange m = RowsInRange (error_rows m) × All AnyInRange m.details
