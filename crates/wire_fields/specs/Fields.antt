-- Fields of a message on the wire (Protocol Buffers encoding, "Message Structure").
use Rattle.std.specs.Prelude.{◌≡◌, ℕ, ◌+◌, ◌*◌, ◌%◌, ◌^◌, ◌<◌, ◌≤◌, List, [], ◌∷◌, ◌++◌, length}
use Rattle.std.specs.Int.{w32, w64, to_le_bytes}

-- the value of a field: of type 0, 1, 2 or 5
pub data Payload : Type 0 where
  Varint : (value : ℕ) → Payload
  Fixed64 : (value : ℕ) → Payload
  Bytes : (bytes : List ℕ) → Payload
  Fixed32 : (value : ℕ) → Payload

-- a field of a message
pub record WireField : Type 0 where
  pub number : ℕ
  pub payload : Payload

-- the type that stands in the low three bits of a field's tag
abbrev pub wire_type : Payload → ℕ
wire_type (Varint value) = 0
wire_type (Fixed64 value) = 1
wire_type (Bytes bytes) = 2
wire_type (Fixed32 value) = 5

-- a field's tag: its number, and below it the type of its payload
abbrev pub tag : WireField → ℕ
tag field = 8 * field.number + wire_type field.payload

-- all bytes but the last have the high bit
abbrev pub EndsAtLast : List ℕ → Type 0
EndsAtLast [] = ⊥
EndsAtLast (b ∷ []) = b < 128
EndsAtLast (b ∷ c ∷ bytes) = (128 ≤ b) × (b < 256) × EndsAtLast (c ∷ bytes)

-- the number of the low seven bits of each byte, least significant first
abbrev pub sevens : List ℕ → ℕ
sevens [] = 0
sevens (b ∷ bytes) = b % 128 + 128 * sevens bytes

-- A varint of one to ten bytes, of a number of 64 bits. It may be longer than it has to be.
pub record IsVarint (bytes : List ℕ) (value : ℕ) : Type 0 where
  pub ends : EndsAtLast bytes
  pub short : length bytes ≤ 10
  pub value_is : value ≡ sevens bytes
  pub fits : value < 2 ^ 64

-- these bytes are the payload
abbrev pub PayloadSpells : Payload → List ℕ → Type 0
PayloadSpells (Varint value) bytes = IsVarint bytes value
PayloadSpells (Fixed64 value) bytes = (value < 2 ^ 64) × (bytes ≡ to_le_bytes w64 value)
PayloadSpells (Bytes inside) bytes = (size : List ℕ) × IsVarint size (length inside) × (bytes ≡ size ++ inside)
PayloadSpells (Fixed32 value) bytes = (value < 2 ^ 32) × (bytes ≡ to_le_bytes w32 value)

-- these bytes are the field: its tag, then its payload
pub record FieldSpells (field : WireField) (bytes : List ℕ) : Type 0 where
  pub not_zero : 0 < field.number
  pub in_range : field.number ≤ 536870911
  pub front : List ℕ
  pub back : List ℕ
  pub tag_is : IsVarint front (tag field)
  pub payload_is : PayloadSpells field.payload back
  pub bytes_are : bytes ≡ front ++ back

-- The bytes are these fields, one after another.
abbrev pub Spells : List WireField → List ℕ → Type 0
Spells [] bytes = bytes ≡ []
Spells (field ∷ fields) bytes = (front rest : List ℕ) × FieldSpells field front × Spells fields rest × (bytes ≡ front ++ rest)
