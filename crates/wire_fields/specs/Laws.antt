-- Laws of messages on the wire.
use Rattle.std.specs.Prelude.{◌≡◌, ◌≢◌, ℕ, ◌^◌, ◌<◌, ◌≤◌, List, [], ◌++◌, length, All, Some, None}
use Rattle.wire_fields.specs.declared.wire.WireFault.{WireFault}
use Rattle.wire_fields.specs.Fields.{Payload, Varint, Fixed64, Bytes, Fixed32, WireField, Spells}
use Rattle.wire_fields.specs.Field.{Begins, AreRead}
use Rattle.wire_fields.specs.Reading.{fault_at}
use Rattle.wire_fields.specs.Spelling.{spelling}

-- Bytes spell one list of fields at most.
abbrev pub OneMessage : Type 0
OneMessage = (fields others : List WireField) (bytes : List ℕ) → Spells fields bytes → Spells others bytes → fields ≡ others

-- a payload that can be written
abbrev pub PayloadFits : Payload → Type 0
PayloadFits (Varint value) = value < 2 ^ 64
PayloadFits (Fixed64 value) = value < 2 ^ 64
PayloadFits (Bytes bytes) = length bytes < 2 ^ 64
PayloadFits (Fixed32 value) = value < 2 ^ 32

-- a field that can be written
pub record CanBeWritten (field : WireField) : Type 0 where
  pub not_zero : 0 < field.number
  pub in_range : field.number ≤ 536870911
  pub payload_fits : PayloadFits field.payload

-- The canonical spelling of fields spells these fields.
abbrev pub SpellingSpells : Type 0
SpellingSpells = (fields : List WireField) → All CanBeWritten fields → Spells fields (spelling fields)

-- Where there is a fault, the bytes begin with no field.
abbrev pub NoFieldAtFault : Type 0
NoFieldAtFault = (field : WireField) (bytes rest : List ℕ) (fault : WireFault) → fault_at bytes ≡ Some fault → Begins field bytes rest → ⊥

-- Where there is no fault and a byte is left, the bytes begin with a field.
abbrev pub FieldWithoutFault : Type 0
FieldWithoutFault = (bytes : List ℕ) → All (λ b. b < 256) bytes → bytes ≢ [] → fault_at bytes ≡ None → (field : WireField) × (rest : List ℕ) × Begins field bytes rest

-- A message whose first fields were read is these fields and what the bytes that are left spell.
abbrev pub RestOfMessage : Type 0
RestOfMessage = (before all : List WireField) (bytes left : List ℕ) → AreRead before bytes left → Spells all bytes → (others : List WireField) × (all ≡ before ++ others) × Spells others left

-- Bytes that come to a fault after some fields are no message.
abbrev pub NoMessageAtFault : Type 0
NoMessageAtFault = (before all : List WireField) (bytes left : List ℕ) (fault : WireFault) → AreRead before bytes left → fault_at left ≡ Some fault → Spells all bytes → ⊥
