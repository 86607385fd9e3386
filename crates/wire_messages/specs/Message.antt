-- What a message says under a field's number (Protocol Buffers encoding; what is not read: this project's profile).
use Rattle.std.specs.Prelude.{ℕ, ℤ, zero, suc, pos, ◌==◌, Bool, false, if◌then◌else◌, List, [], ◌∷◌, ◌++◌, length, map, filter, Option, Some, None}
use Rattle.std.specs.List.{list_all, list_any}
use Rattle.std.specs.Result.{result_ok}
use Rattle.std.specs.Str.{is_utf8}
use Rattle.list_types.specs.Options.{◌>>=◌}
use Rattle.wire_fields.specs.Fields.{Payload, Varint, Fixed64, Bytes, Fixed32, WireField}
use Rattle.wire_fields.specs.Reading.{varint_at}
use Rattle.wire_messages.specs.Numbers.{as_uint32, as_uint64, as_int32, as_int64, as_bool}

-- each item read, or nothing where one is not
abbrev pub each : {A B : Type 0} → (A → Option B) → List A → Option (List B)
each read [] = Some []
each read (x ∷ xs) = read x >>= λ y. each read xs >>= λ ys. Some (y ∷ ys)

-- the last item, or the default
abbrev pub last_or : {A : Type 0} → A → List A → A
last_or default [] = default
last_or default (x ∷ xs) = last_or x xs

-- the lists one behind another
abbrev pub flatten : {A : Type 0} → List (List A) → List A
flatten [] = []
flatten (x ∷ xs) = x ++ flatten xs

-- the payloads that are given under a number, in order
abbrev pub given : ℕ → List WireField → List Payload
given number fields = map (λ field. field.payload) (filter (λ field. field.number == number) fields)

-- the number that a payload bears, if it has that type
abbrev pub varint_of : Payload → Option ℕ
varint_of (Varint value) = Some value
varint_of (Fixed64 value) = None
varint_of (Bytes bytes) = None
varint_of (Fixed32 value) = None

-- the bytes that a payload bears, if it has that type
abbrev pub bytes_of : Payload → Option (List ℕ)
bytes_of (Varint value) = None
bytes_of (Fixed64 value) = None
bytes_of (Bytes bytes) = Some bytes
bytes_of (Fixed32 value) = None

-- A singular number: the last that is given, or the default. It is not read where any that is given has another type or value.
unfoldable pub number_at : {A : Type 0} → (ℕ → Option A) → A → ℕ → List WireField → Option A
number_at read default number fields = each (λ payload. varint_of payload >>= read) (given number fields) >>= λ values. Some (last_or default values)

-- a singular uint32, 0 where it is not given
abbrev pub uint32_at : ℕ → List WireField → Option ℕ
uint32_at number fields = number_at as_uint32 0 number fields

-- a singular uint64, 0 where it is not given
abbrev pub uint64_at : ℕ → List WireField → Option ℕ
uint64_at number fields = number_at as_uint64 0 number fields

-- a singular int32 or enumeration, 0 where it is not given
abbrev pub int32_at : ℕ → List WireField → Option ℤ
int32_at number fields = number_at as_int32 (pos 0) number fields

-- a singular int64, 0 where it is not given
abbrev pub int64_at : ℕ → List WireField → Option ℤ
int64_at number fields = number_at as_int64 (pos 0) number fields

-- a singular bool, false where it is not given
abbrev pub bool_at : ℕ → List WireField → Option Bool
bool_at number fields = number_at as_bool false number fields

-- varints one behind another, each read, in at most so many steps
unfoldable pub packed_in : {A : Type 0} → (ℕ → Option A) → ℕ → List ℕ → Option (List A)
packed_in read zero [] = Some []
packed_in read zero (b ∷ bytes) = None
packed_in read (suc steps) [] = Some []
packed_in read (suc steps) (b ∷ bytes) = result_ok (varint_at (b ∷ bytes)) >>= λ x. read x.0 >>= λ first. packed_in read steps x.1 >>= λ others. Some (first ∷ others)

-- one number, or numbers that are packed
abbrev pub numbers_of : {A : Type 0} → (ℕ → Option A) → Payload → Option (List A)
numbers_of read (Varint value) = read value >>= λ x. Some (x ∷ [])
numbers_of read (Fixed64 value) = None
numbers_of read (Bytes bytes) = packed_in read (length bytes) bytes
numbers_of read (Fixed32 value) = None

-- repeated numbers, singly or packed
unfoldable pub uint32s_at : ℕ → List WireField → Option (List ℕ)
uint32s_at number fields = each (numbers_of as_uint32) (given number fields) >>= λ lists. Some (flatten lists)

-- a singular byte string: the last that is given, or none
unfoldable pub bytes_at : ℕ → List WireField → Option (List ℕ)
bytes_at number fields = each bytes_of (given number fields) >>= λ values. Some (last_or [] values)

-- bytes that are a text
abbrev pub as_text : List ℕ → Option (List ℕ)
as_text bytes = if is_utf8 bytes then Some bytes else None

-- a singular text: each that is given is UTF-8
unfoldable pub text_at : ℕ → List WireField → Option (List ℕ)
text_at number fields = each (λ payload. bytes_of payload >>= as_text) (given number fields) >>= λ values. Some (last_or [] values)

-- repeated texts
unfoldable pub texts_at : ℕ → List WireField → Option (List (List ℕ))
texts_at number fields = each (λ payload. bytes_of payload >>= as_text) (given number fields)

-- repeated messages or byte strings: their bytes
unfoldable pub messages_at : ℕ → List WireField → Option (List (List ℕ))
messages_at number fields = each bytes_of (given number fields)

-- at most one
abbrev pub at_most_one : {A : Type 0} → List A → Option (Option A)
at_most_one [] = Some None
at_most_one (x ∷ []) = Some (Some x)
at_most_one (x ∷ y ∷ rest) = None

-- a singular message, which is given at most once: its bytes, or none
unfoldable pub message_at : ℕ → List WireField → Option (Option (List ℕ))
message_at number fields = messages_at number fields >>= at_most_one

-- whether a field is given under the number
abbrev pub is_given : ℕ → List WireField → Bool
is_given number fields = list_any (λ field. field.number == number) fields

-- the member of a choice that is given, or none; two different ones are not read
unfoldable pub choice_at : List ℕ → List WireField → Option (Option ℕ)
choice_at members fields = at_most_one (filter (λ member. is_given member fields) members)

-- no field has another number than these
abbrev pub only_known : List ℕ → List WireField → Bool
only_known known fields = list_all (λ field. list_any (λ number. number == field.number) known) fields
