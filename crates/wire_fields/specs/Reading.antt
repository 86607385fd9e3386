-- Reading the field at the front of bytes, from left to right, with the first fault that is met.
use Rattle.std.specs.Prelude.{ℕ, zero, suc, ◌+◌, ◌*◌, ◌/◌, ◌%◌, ◌||◌, ◌==◌, nat_lt, if◌then◌else◌, List, [], ◌∷◌, length, take, drop, Option, Some, None, Result, Ok, Err}
use Rattle.std.specs.Int.{Width, w32, w64, byte_len, from_le_bytes}
use Rattle.list_types.specs.Results.{◌>>=◌}
use Rattle.wire_fields.specs.declared.wire.WireFault.{WireFault}
use Rattle.wire_fields.specs.declared.wire.WireFault.TheVariants.{Truncated, VarintLong, BadType, ZeroField}
use Rattle.wire_fields.specs.declared.wire.WireType.{WireType}
use Rattle.wire_fields.specs.declared.wire.WireType.TheVariants as types
use Rattle.wire_fields.specs.Fields.{Payload, Varint, Fixed64, Bytes, Fixed32, WireField}

-- A part of a field is read as its value and the bytes after it. This one is a byte.
abbrev pub byte_at : List ℕ → Result (ℕ × List ℕ) WireFault
byte_at [] = Err Truncated
byte_at (b ∷ rest) = Ok (b, rest)

-- a varint, or the end of one, with at most so many bytes before the tenth, which is 0 or 1
unfoldable pub varint_in : ℕ → List ℕ → Result (ℕ × List ℕ) WireFault
varint_in zero bytes = do
  last ← byte_at bytes
  if nat_lt 1 last.0 then Err VarintLong else Ok last
varint_in (suc more) bytes = do
  digit ← byte_at bytes
  if nat_lt digit.0 128 then Ok digit else do
    high ← varint_in more digit.1
    Ok (digit.0 % 128 + 128 * high.0, high.1)

-- a varint of at most ten bytes
abbrev pub varint_at : List ℕ → Result (ℕ × List ℕ) WireFault
varint_at bytes = varint_in 9 bytes

-- a number of so many bytes, least significant first
abbrev pub number_at : Width → List ℕ → Result (ℕ × List ℕ) WireFault
number_at w bytes = if nat_lt (length bytes) (byte_len w) then Err Truncated else Ok (from_le_bytes w (take (byte_len w) bytes), drop (byte_len w) bytes)

-- a length and that many bytes
unfoldable pub bytes_at : List ℕ → Result (List ℕ × List ℕ) WireFault
bytes_at bytes = do
  size ← varint_at bytes
  if nat_lt (length size.1) size.0 then Err Truncated else Ok (take size.0 size.1, drop size.0 size.1)

-- the wire type of this number
abbrev pub type_of : ℕ → Result WireType WireFault
type_of n = if n == 0 then Ok types.Varint else if n == 1 then Ok types.Fixed64 else if n == 2 then Ok types.Bytes else if n == 5 then Ok types.Fixed32 else Err BadType

-- the number of a field, the type of its payload, and the payload's bytes
unfoldable pub tag_at : List ℕ → Result (ℕ × WireType × List ℕ) WireFault
tag_at bytes = do
  tag ← varint_at bytes
  wire_type ← type_of (tag.0 % 8)
  if (tag.0 / 8 == 0) || nat_lt 536870911 (tag.0 / 8) then Err ZeroField else Ok (tag.0 / 8, wire_type, tag.1)

-- a payload of this type
abbrev pub payload_at : WireType → List ℕ → Result (Payload × List ℕ) WireFault
payload_at types.Varint bytes = do
  value ← varint_at bytes
  Ok (Varint value.0, value.1)
payload_at types.Fixed64 bytes = do
  value ← number_at w64 bytes
  Ok (Fixed64 value.0, value.1)
payload_at types.Bytes bytes = do
  inside ← bytes_at bytes
  Ok (Bytes inside.0, inside.1)
payload_at types.Fixed32 bytes = do
  value ← number_at w32 bytes
  Ok (Fixed32 value.0, value.1)

-- a payload as the field of this number
abbrev pub numbered : ℕ → Result (Payload × List ℕ) WireFault → Result (WireField × List ℕ) WireFault
numbered number read = read >>= λ payload. Ok (record { number = number; payload = payload.0 }, payload.1)

-- the field at the front, and the bytes after it
unfoldable pub field_at : List ℕ → Result (WireField × List ℕ) WireFault
field_at bytes = do
  tag ← tag_at bytes
  numbered tag.0 (payload_at tag.1 tag.2)

-- the fault of a reading that failed
abbrev pub fault_of : {A : Type 0} → Result A WireFault → Option WireFault
fault_of (Ok x) = None
fault_of (Err fault) = Some fault

-- The first fault of the field that the bytes begin with, if it has one. Where no byte is left there is none.
abbrev pub fault_at : List ℕ → Option WireFault
fault_at [] = None
fault_at (b ∷ bytes) = fault_of (field_at (b ∷ bytes))
