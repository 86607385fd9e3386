-- A field as the code hands it out, and where it stands.
use Rattle.std.specs.Prelude.{◌≡◌, ℕ, List, ◌++◌}
use Rattle.wire_fields.specs.declared.wire.Field.{Field}
use Rattle.wire_fields.specs.declared.wire.Field.TheVariants as variants
use Rattle.wire_fields.specs.Fields.{Varint, Fixed64, Bytes, Fixed32, WireField, FieldSpells, Spells}

-- a field without where its bytes lie in memory
abbrev pub field_of : Field → WireField
field_of (variants.Varint number value) = record { number = number; payload = Varint value }
field_of (variants.Fixed64 number value) = record { number = number; payload = Fixed64 value }
field_of (variants.Bytes number bytes) = record { number = number; payload = Bytes bytes.now }
field_of (variants.Fixed32 number value) = record { number = number; payload = Fixed32 value }

-- the bytes begin with the field, and the rest comes after it
pub record Begins (field : WireField) (bytes rest : List ℕ) : Type 0 where
  pub front : List ℕ
  pub spells : FieldSpells field front
  pub bytes_are : bytes ≡ front ++ rest

-- the bytes begin with these fields, one after another, and what is left comes after them
pub record AreRead (fields : List WireField) (bytes left : List ℕ) : Type 0 where
  pub front : List ℕ
  pub spells : Spells fields front
  pub bytes_are : bytes ≡ front ++ left
