-- What a reader answers, beside what the message says.
use Rattle.std.specs.Prelude.{◌≡◌, ℕ, Bool, false, is_some, List, [], ◌∷◌, Result, Ok, Err, Option, Some, None}
use Rattle.std.specs.Result.{result_ok}
use Rattle.list_types.specs.Options.{◌>>=◌}
use Rattle.list_types.specs.declared.memory.Refusal.{Refusal}
use Rattle.list_types.specs.declared.memory.Refusal.TheVariants.{NoMemory, For}
use Rattle.wire_fields.specs.Fields.{Payload, Varint, Fixed64, Bytes, Fixed32}
use Rattle.wire_fields.specs.Reading.{varint_at}
use Rattle.wire_messages.specs.declared.errors.Unreadable.{Unreadable}
use Rattle.wire_messages.specs.Numbers.{as_uint32}

-- The answer, seen by view, is the value that is read. It is refused just where none is read.
abbrev pub Reads : {X Y E : Type 0} → (X → Y) → Result X E → Option Y → Type 0
Reads view (Ok x) read = read ≡ Some (view x)
Reads view (Err e) read = read ≡ None

-- Why a reader that takes memory refuses: there is none, or nothing is read.
abbrev pub Refuses : {Y : Type 0} → Refusal Unreadable → Option Y → Type 0
Refuses NoMemory read = Unit {0}
Refuses (For cause) read = read ≡ None

-- the same as `Reads` of a reader that takes memory, unless there is none
abbrev pub ReadsInMemory : {X Y : Type 0} → (X → Y) → Result X (Refusal Unreadable) → Option Y → Type 0
ReadsInMemory view (Ok x) read = read ≡ Some (view x)
ReadsInMemory view (Err e) read = Refuses e read

-- the first of the payloads is read: before that no memory is asked for
abbrev pub first_is_read : {A : Type 0} → (Payload → Option A) → List Payload → Bool
first_is_read read [] = false
first_is_read read (payload ∷ others) = is_some (read payload)

-- the first of the numbers that are packed in bytes, if it is read
abbrev pub packed_first : List ℕ → Option ℕ
packed_first bytes = result_ok (varint_at bytes) >>= λ x. as_uint32 x.0

-- The first of the numbers that payloads bear, singly or packed, is read. Before that no memory is asked for.
abbrev pub first_number_is_read : List Payload → Bool
first_number_is_read [] = false
first_number_is_read (Varint value ∷ others) = is_some (as_uint32 value)
first_number_is_read (Fixed64 value ∷ others) = false
first_number_is_read (Bytes [] ∷ others) = first_number_is_read others
first_number_is_read (Bytes (b ∷ bytes) ∷ others) = is_some (packed_first (b ∷ bytes))
first_number_is_read (Fixed32 value ∷ others) = false
