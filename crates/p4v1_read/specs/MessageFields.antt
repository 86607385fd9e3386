-- The fields that bytes spell, computed from the front (Protocol Buffers encoding, "Message Structure").
use Rattle.std.specs.Prelude.{◌≡◌, ◌↔◌, ℕ, zero, suc, List, [], ◌∷◌, length, All, ◌<◌, Option, Some, None}
use Rattle.std.specs.Result.{result_ok}
use Rattle.wire_fields.specs.Fields.{WireField, Spells}
use Rattle.wire_fields.specs.Reading.{field_at}
use Rattle.list_types.specs.Options.{◌>>=◌}

-- the fields that the bytes are, one after another, in at most so many steps
unfoldable pub fields_in : ℕ → List ℕ → Option (List WireField)
fields_in steps [] = Some []
fields_in zero (b ∷ bytes) = None
fields_in (suc steps) (b ∷ bytes) = result_ok (field_at (b ∷ bytes)) >>= λ first. fields_in steps first.1 >>= λ others. Some (first.0 ∷ others)

-- the fields of the message that the bytes are, if they are one
unfoldable pub fields_of : List ℕ → Option (List WireField)
fields_of bytes = fields_in (length bytes) bytes

-- The fields that are computed are those that the bytes spell.
abbrev pub FieldsAreSpelled : Type 0
FieldsAreSpelled = (bytes : List ℕ) (fields : List WireField) → All (λ b. b < 256) bytes → (fields_of bytes ≡ Some fields) ↔ Spells fields bytes
