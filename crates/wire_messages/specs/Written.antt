-- What the fields of a message are written as, by their types (Protocol Buffers encoding; a default is left out, as proto3 does).
use Rattle.std.specs.Prelude.{ℕ, ℤ, pos, negsuc, ◌-◌, ◌^◌, ◌<◌, ◌==◌, ◌&&◌, nat_lt, nat_le, Bool, true, false, if◌then◌else◌, All, List, [], ◌∷◌, ◌++◌, map, Option, Some, None}
use Rattle.std.specs.List.{flat_map}
use Rattle.std.specs.Str.{IsUtf8}
use Rattle.wire_fields.specs.Fields.{Payload, Varint, Fixed64, Bytes, Fixed32, WireField}
use Rattle.wire_fields.specs.Spelling.{varint, spelling}

-- the value of a field by its type; a message is given by its fields
pub data Value : Type 0 where
  Uint32 : (value : ℕ) → Value
  Uint64 : (value : ℕ) → Value
  -- int32 and enumerations
  Int32 : (value : ℤ) → Value
  Int64 : (value : ℤ) → Value
  Flag : (value : Bool) → Value
  ByteString : (value : List ℕ) → Value
  Text : (value : List ℕ) → Value
  -- repeated texts
  Texts : (values : List (List ℕ)) → Value
  -- repeated uint32, packed
  Packed : (values : List ℕ) → Value
  -- a message, which is left out where all its fields are defaults
  Message : (message : Option (List WireField)) → Value
  -- a message that is present where it is given: the member of a choice, or one that is named present
  Present : (message : Option (List WireField)) → Value
  -- repeated messages
  Messages : (messages : List (List WireField)) → Value
  -- a message that is carried as its bytes
  Carried : (message : Option (List ℕ)) → Value
  -- the member of a choice, which is written even where it is a default
  ChosenUint32 : (value : ℕ) → Value
  ChosenBytes : (value : List ℕ) → Value

-- int32, int64 and enumerations as numbers of 64 bits
abbrev pub two_complement : ℤ → ℕ
two_complement (pos n) = n
two_complement (negsuc n) = 2 ^ 64 - 1 - n

-- a number, unless it is 0
abbrev pub unless_zero : ℕ → List Payload
unless_zero value = if value == 0 then [] else Varint value ∷ []

-- bytes, unless there are none
abbrev pub unless_empty : List ℕ → List Payload
unless_empty [] = []
unless_empty (b ∷ bytes) = Bytes (b ∷ bytes) ∷ []

-- the bytes of a message that is given, else none
abbrev pub carried_bytes : Option (List ℕ) → List ℕ
carried_bytes None = []
carried_bytes (Some bytes) = bytes

-- a message, unless it has no field
abbrev pub unless_default : Option (List WireField) → List Payload
unless_default None = []
unless_default (Some []) = []
unless_default (Some (field ∷ fields)) = Bytes (spelling (field ∷ fields)) ∷ []

-- a message where it is given
abbrev pub where_given : Option (List WireField) → List Payload
where_given None = []
where_given (Some fields) = Bytes (spelling fields) ∷ []

-- the payloads that a value is written as
abbrev pub payloads : Value → List Payload
payloads (Uint32 value) = unless_zero value
payloads (Uint64 value) = unless_zero value
payloads (Int32 value) = unless_zero (two_complement value)
payloads (Int64 value) = unless_zero (two_complement value)
payloads (Flag value) = if value then Varint 1 ∷ [] else []
payloads (ByteString value) = unless_empty value
payloads (Text value) = unless_empty value
payloads (Texts values) = map (λ text. Bytes text) values
payloads (Packed values) = unless_empty (flat_map varint values)
payloads (Message message) = unless_default message
payloads (Present message) = where_given message
payloads (Messages messages) = map (λ fields. Bytes (spelling fields)) messages
payloads (Carried message) = unless_empty (carried_bytes message)
payloads (ChosenUint32 value) = Varint value ∷ []
payloads (ChosenBytes value) = Bytes value ∷ []

-- a row of a message: a field's number and its value
pub record Row : Type 0 where
  pub number : ℕ
  pub value : Value

-- the row of this number and value
abbrev pub row : ℕ → Value → Row
row number value = record { number = number; value = value }

-- the fields that a value is written as under a number
abbrev pub row_fields : ℕ → Value → List WireField
row_fields number value = map (λ payload. record { number = number; payload = payload }) (payloads value)

-- the fields that the rows of a message are written as, in their order
unfoldable pub written : List Row → List WireField
written rows = flat_map (λ row. row_fields row.number row.value) rows

-- the bytes that a value is written as under a number
unfoldable pub row_bytes : ℕ → Value → List ℕ
row_bytes number value = spelling (row_fields number value)

-- bytes, and what the rows are written as behind them, row by row
abbrev pub with_rows : List ℕ → List Row → List ℕ
with_rows bytes [] = bytes
with_rows bytes (row ∷ rows) = with_rows (bytes ++ row_bytes row.number row.value) rows

-- the numbers of the rows rise, from above a number, and are numbers of fields
abbrev pub rising_from : ℕ → List Row → Bool
rising_from low [] = true
rising_from low (row ∷ rows) = nat_lt low row.number && (nat_le row.number 536870911 && rising_from row.number rows)

-- the numbers of the rows rise
abbrev pub rising : List Row → Bool
rising rows = rising_from 0 rows

-- a number in the range of an int32
abbrev pub IsInt32 : ℤ → Type 0
IsInt32 (pos n) = n < 2 ^ 31
IsInt32 (negsuc n) = n < 2 ^ 31

-- a number in the range of an int64
abbrev pub IsInt64 : ℤ → Type 0
IsInt64 (pos n) = n < 2 ^ 63
IsInt64 (negsuc n) = n < 2 ^ 63

-- a value in the range of its type
abbrev pub InRange : Value → Type 0
InRange (Uint32 value) = value < 2 ^ 32
InRange (Uint64 value) = value < 2 ^ 64
InRange (Int32 value) = IsInt32 value
InRange (Int64 value) = IsInt64 value
InRange (Flag value) = Unit {0}
InRange (ByteString value) = Unit {0}
InRange (Text value) = IsUtf8 value
InRange (Texts values) = All IsUtf8 values
InRange (Packed values) = All (λ value. value < 2 ^ 32) values
InRange (Message message) = Unit {0}
InRange (Present message) = Unit {0}
InRange (Messages messages) = Unit {0}
InRange (Carried message) = Unit {0}
InRange (ChosenUint32 value) = value < 2 ^ 32
InRange (ChosenBytes value) = Unit {0}

-- the values of all rows are in the ranges of their types
abbrev pub RowsInRange : List Row → Type 0
RowsInRange [] = Unit {0}
RowsInRange (row ∷ rows) = InRange row.value × RowsInRange rows

-- the payloads of the first row of a number
abbrev pub look : ℕ → List Row → List Payload
look number [] = []
look number (row ∷ rows) = if row.number == number then payloads row.value else look number rows

-- whether there is a payload
abbrev pub has_payload : List Payload → Bool
has_payload [] = false
has_payload (payload ∷ others) = true

-- the bytes of a message that is written, else none
abbrev pub sent : List Payload → Option (List ℕ)
sent [] = None
sent (Varint value ∷ others) = None
sent (Fixed64 value ∷ others) = None
sent (Bytes bytes ∷ others) = Some bytes
sent (Fixed32 value ∷ others) = None
