-- The fields at the front of bytes, one after another, up to the end or to the first fault.
use Rattle.std.specs.Prelude.{ℕ, zero, suc, List, [], ◌∷◌, length, Result, Ok, Err}
use Rattle.wire_fields.specs.declared.wire.WireFault.{WireFault}
use Rattle.wire_fields.specs.Fields.{WireField}
use Rattle.wire_fields.specs.Reading.{field_at}

-- a field that is read, and those behind it
abbrev pub first_and : Result (WireField × List ℕ) WireFault → (List ℕ → List WireField) → List WireField
first_and (Ok first) others = first.0 ∷ others first.1
first_and (Err fault) others = []

-- the fields in at most so many steps
unfoldable pub walked_in : ℕ → List ℕ → List WireField
walked_in zero bytes = []
walked_in (suc steps) bytes = first_and (field_at bytes) (walked_in steps)

-- the fields, of which each takes a byte at least
unfoldable pub walked : List ℕ → List WireField
walked bytes = walked_in (length bytes) bytes
