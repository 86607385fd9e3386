-- The canonical spelling of fields: each varint as short as it can be.
use Rattle.std.specs.Prelude.{ℕ, List, ◌++◌, length}
use Rattle.std.specs.List.{flat_map}
use Rattle.std.specs.Int.{w32, w64, to_le_bytes}
use Rattle.canon_bytes.specs.Base128.{base_128}
use Rattle.wire_fields.specs.Fields.{Payload, Varint, Fixed64, Bytes, Fixed32, WireField, tag}

-- the shortest varint of a number of 64 bits
abbrev pub varint : ℕ → List ℕ
varint value = base_128 10 value

-- the canonical bytes of a payload: bytes follow their length
abbrev pub payload_bytes : Payload → List ℕ
payload_bytes (Varint value) = varint value
payload_bytes (Fixed64 value) = to_le_bytes w64 value
payload_bytes (Bytes bytes) = varint (length bytes) ++ bytes
payload_bytes (Fixed32 value) = to_le_bytes w32 value

-- the canonical bytes of a field: its tag, then its payload
abbrev pub field_bytes : WireField → List ℕ
field_bytes field = varint (tag field) ++ payload_bytes field.payload

-- a message of these fields
abbrev pub spelling : List WireField → List ℕ
spelling fields = flat_map field_bytes fields

-- a field that bears a number
abbrev pub number_field : ℕ → ℕ → WireField
number_field number value = record { number = number; payload = Varint value }

-- a field that bears bytes, a text or a message
abbrev pub bytes_field : ℕ → List ℕ → WireField
bytes_field number bytes = record { number = number; payload = Bytes bytes }
