-- Messages in the fields of a message (Protocol Buffers encoding, "Submessages"; what is not read: this project's profile).
use Rattle.std.specs.Prelude.{ℕ, Bool, List, Option, Some, None, is_some}
use Rattle.std.specs.Option.{option_map}
use Rattle.wire_fields.specs.Fields.{WireField}
use Rattle.list_types.specs.Options.{◌>>=◌}
use Rattle.wire_messages.specs.Message.{each, message_at, messages_at}
use Rattle.p4v1_read.specs.MessageFields.{fields_of}

-- a message in bytes, by what its fields say
abbrev pub read : {A : Type 0} → (List WireField → Option A) → List ℕ → Option A
read message bytes = fields_of bytes >>= message

-- what may be absent
abbrev pub optional : {A B : Type 0} → (A → Option B) → Option A → Option (Option B)
optional read None = Some None
optional read (Some x) = read x >>= λ y. Some (Some y)

-- the message under a number, or none
unfoldable pub one_at : {A : Type 0} → (List WireField → Option A) → ℕ → List WireField → Option (Option A)
one_at message number fields = message_at number fields >>= optional (read message)

-- the messages under a number, in order
unfoldable pub all_at : {A : Type 0} → (List WireField → Option A) → ℕ → List WireField → Option (List A)
all_at message number fields = messages_at number fields >>= each (read message)

-- the fields of the message that is given under a number
unfoldable pub inside_at : ℕ → List WireField → Option (List WireField)
inside_at number fields = message_at number fields >>= λ given. given >>= fields_of

-- the message that is given under a number
unfoldable pub member_at : {A : Type 0} → (List WireField → Option A) → ℕ → List WireField → Option A
member_at message number fields = inside_at number fields >>= message

-- whether a message is given, whose inside is passed over
unfoldable pub opaque_at : ℕ → List WireField → Option Bool
opaque_at number fields = option_map is_some (message_at number fields)
