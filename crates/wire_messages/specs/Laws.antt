-- Laws of rows: what they are written as can be written, and is read back.
use Rattle.std.specs.Prelude.{◌≡◌, ℕ, ◌^◌, ◌<◌, IsTrue, All, List, ◌++◌, length, map, Some}
use Rattle.std.specs.Option.{option_map}
use Rattle.wire_fields.specs.Fields.{WireField}
use Rattle.wire_fields.specs.Laws.{CanBeWritten}
use Rattle.wire_fields.specs.Spelling.{spelling}
use Rattle.wire_messages.specs.Message.{given, uint32_at, uint64_at, int32_at, int64_at, bool_at, bytes_at, text_at, texts_at, uint32s_at, message_at, messages_at}
use Rattle.wire_messages.specs.Written.{Value, Uint32, Uint64, Int32, Int64, Flag, ByteString, Text, Texts, Packed, Message, Present, Messages, Carried, ChosenUint32, ChosenBytes, Row, payloads, written, with_rows, rising, InRange, RowsInRange, look, sent}

-- Of rows with rising numbers, those payloads are given under a number that its row has.
abbrev pub RowsAreFound : Type 0
RowsAreFound = (number : ℕ) (rows : List Row) → IsTrue (rising rows) → given number (written rows) ≡ look number rows

-- the value is read under the number, by the rule of its type
abbrev pub ReadsAs : ℕ → List WireField → Value → Type 0
ReadsAs number fields (Uint32 value) = uint32_at number fields ≡ Some value
ReadsAs number fields (Uint64 value) = uint64_at number fields ≡ Some value
ReadsAs number fields (Int32 value) = int32_at number fields ≡ Some value
ReadsAs number fields (Int64 value) = int64_at number fields ≡ Some value
ReadsAs number fields (Flag value) = bool_at number fields ≡ Some value
ReadsAs number fields (ByteString value) = bytes_at number fields ≡ Some value
ReadsAs number fields (Text value) = text_at number fields ≡ Some value
ReadsAs number fields (Texts values) = texts_at number fields ≡ Some values
ReadsAs number fields (Packed values) = uint32s_at number fields ≡ Some values
ReadsAs number fields (Message message) = message_at number fields ≡ Some (sent (payloads (Message message)))
ReadsAs number fields (Present message) = message_at number fields ≡ Some (option_map spelling message)
ReadsAs number fields (Messages messages) = messages_at number fields ≡ Some (map spelling messages)
ReadsAs number fields (Carried message) = message_at number fields ≡ Some (sent (payloads (Carried message)))
ReadsAs number fields (ChosenUint32 value) = uint32_at number fields ≡ Some value
ReadsAs number fields (ChosenBytes value) = bytes_at number fields ≡ Some value

-- A value of a row, in the range of its type, is read back, whatever the other rows are.
abbrev pub WrittenIsRead : Type 0
WrittenIsRead = (number : ℕ) (rows : List Row) (value : Value) → IsTrue (rising rows) → look number rows ≡ payloads value → InRange value → ReadsAs number (written rows) value

-- Rows in range are fields that can be written, where their bytes are fewer than 2^64.
abbrev pub RowsCanBeWritten : Type 0
RowsCanBeWritten = (rows : List Row) → IsTrue (rising rows) → RowsInRange rows → length (spelling (written rows)) < 2 ^ 64 → All CanBeWritten (written rows)

-- Rows that are written one by one are their fields' spelling.
abbrev pub RowByRow : Type 0
RowByRow = (bytes : List ℕ) (rows : List Row) → with_rows bytes rows ≡ bytes ++ spelling (written rows)
