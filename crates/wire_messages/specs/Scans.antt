-- Scans of the fields of a message, from what the fields before gave.
use Rattle.std.specs.Prelude.{ℕ, List, ◌++◌, length, Option, Some}
use Rattle.std.specs.List.{cons_option}
use Rattle.wire_fields.specs.Fields.{Payload, WireField}
use Rattle.list_types.specs.Options.{◌>>=◌}
use Rattle.wire_messages.specs.Message.{each, last_or, given, at_most_one, bytes_of, as_text, packed_in, numbers_of, flatten}
use Rattle.wire_messages.specs.Numbers.{as_uint32}

-- the last value that is given under a number, or the one before
abbrev pub last_from : {A : Type 0} → (Payload → Option A) → ℕ → A → List WireField → Option A
last_from read number before fields = each read (given number fields) >>= λ values. Some (last_or before values)

-- the values before, and those that are given under a number
abbrev pub all_from : {A : Type 0} → (Payload → Option A) → ℕ → List A → List WireField → Option (List A)
all_from read number before fields = each read (given number fields) >>= λ values. Some (before ++ values)

-- the one value that is given, or was before
abbrev pub one_from : {A : Type 0} → (Payload → Option A) → ℕ → Option A → List WireField → Option (Option A)
one_from read number before fields = each read (given number fields) >>= λ values. at_most_one (cons_option before values)

-- the text that a payload bears, if it has that type
abbrev pub text_of : Payload → Option (List ℕ)
text_of payload = bytes_of payload >>= as_text

-- the numbers before, and those that are packed in the bytes
abbrev pub packed_from : List ℕ → List ℕ → Option (List ℕ)
packed_from before bytes = packed_in as_uint32 (length bytes) bytes >>= λ values. Some (before ++ values)

-- the numbers before, and those that are given under a number, singly or packed
abbrev pub numbers_from : ℕ → List ℕ → List WireField → Option (List ℕ)
numbers_from number before fields = each (numbers_of as_uint32) (given number fields) >>= λ lists. Some (before ++ flatten lists)
