-- Header blocks (RFC 7541, sections 3 and 6).
use Rattle.std.specs.Prelude.{◌≡◌, ℕ, zero, suc, ◌-◌, ◌/◌, ◌==◌, nat_lt, nat_le, Bool, if◌then◌else◌, List, [], ◌∷◌, length, slice_index, Option, Some, None, Result, Ok, Err}
use Rattle.list_types.specs.declared.memory.Refusal.{Refusal}
use Rattle.list_types.specs.declared.memory.Refusal.TheVariants as refusals
use Rattle.list_types.specs.Results.{◌>>=◌, unless, found}
use Rattle.hpack_tables.specs.declared.fault.HpackFault.{HpackFault}
use Rattle.hpack_tables.specs.declared.fault.HpackFault.TheVariants.{BadIndex, TableSize, ListTooLong}
use Rattle.hpack_tables.specs.declared.header.Header.{Header}
use Rattle.hpack_tables.specs.Integers.{integer_at}
use Rattle.hpack_tables.specs.Strings.{string_at}
use Rattle.hpack_tables.specs.Tables.{header, entry_size, Table, inserted, resized, entry_at}

-- an indexed header, and the bytes after it (section 6.1)
unfoldable pub indexed_at : Table → List ℕ → Result (Header × List ℕ) HpackFault
indexed_at table bytes = do
  index ← integer_at 7 BadIndex bytes
  entry ← found BadIndex (entry_at table index.0)
  Ok (entry, index.1)

-- The name of a literal, whose index has a prefix of so many bits, and the bytes after it. Behind index 0 it is written out.
unfoldable pub name_at : ℕ → Table → List ℕ → Result (List ℕ × List ℕ) HpackFault
name_at prefix table bytes = do
  index ← integer_at prefix BadIndex bytes
  if index.0 == 0 then string_at index.1 else do
    entry ← found BadIndex (entry_at table index.0)
    Ok (entry.name, index.1)

-- a literal header, and the bytes after it (section 6.2)
unfoldable pub literal_at : ℕ → Table → List ℕ → Result (Header × List ℕ) HpackFault
literal_at prefix table bytes = do
  name ← name_at prefix table bytes
  value ← string_at name.1
  Ok (header name.0 value.0, value.1)

-- a header that leaves the table as it is
abbrev pub kept : Table → Result (Header × List ℕ) HpackFault → Result (Header × Table × List ℕ) HpackFault
kept table read = read >>= λ x. Ok (x.0, table, x.1)

-- a header that becomes an entry
abbrev pub added : Table → Result (Header × List ℕ) HpackFault → Result (Header × Table × List ℕ) HpackFault
added table read = read >>= λ x. Ok (x.0, inserted x.0 table, x.1)

-- A header, the table after it, and the bytes after it. Its first bits are 1 (indexed), 01 (literal with indexing), 0000 (without) or 0001 (never indexed). At 001 an update of the table's size would stand, which has no place behind the start.
unfoldable pub field_at : Table → List ℕ → Result (Header × Table × List ℕ) HpackFault
field_at table bytes =
    if nat_le 128 (slice_index bytes 0) then kept table (indexed_at table bytes)
    else if nat_le 64 (slice_index bytes 0) then added table (literal_at 6 table bytes)
    else unless (nat_le 32 (slice_index bytes 0)) TableSize (kept table (literal_at 4 table bytes))

-- Headers up to the end, at most so many of them, and the table after them. Their sizes have this room.
unfoldable pub fields_in : ℕ → Table → ℕ → List ℕ → Result (List Header × Table) HpackFault
fields_in zero table room bytes = Ok ([], table)
fields_in (suc more) table room [] = Ok ([], table)
fields_in (suc more) table room (byte ∷ bytes) = do
  field ← field_at table (byte ∷ bytes)
  unless (nat_lt room (entry_size field.0)) ListTooLong (do
    others ← fields_in more field.1 (room - entry_size field.0) field.2
    Ok (field.0 ∷ others.0, others.1))

-- the first bits are 001, of an update of the table's size
abbrev pub is_update : List ℕ → Bool
is_update bytes = slice_index bytes 0 / 32 == 1

-- An update of the table's size, which is at most 4,096 (section 6.3): the table after it, and the bytes after it.
unfoldable pub update_at : Table → List ℕ → Result (Table × List ℕ) HpackFault
update_at table bytes = do
  size ← integer_at 5 TableSize bytes
  unless (nat_lt 4096 size.0) TableSize (Ok (resized size.0 table, size.1))

-- the updates at the start, at most so many: the table after them, and the bytes after them
unfoldable pub updates_in : ℕ → Table → List ℕ → Result (Table × List ℕ) HpackFault
updates_in zero table bytes = Ok (table, bytes)
updates_in (suc more) table bytes = if is_update bytes then (do
  updated ← update_at table bytes
  updates_in more updated.0 updated.1) else Ok (table, bytes)

-- The headers of a block, and the table after it. As each header and each update takes a byte at least, there are no more of them than bytes.
unfoldable pub block_at : Table → List ℕ → Result (List Header × Table) HpackFault
block_at table bytes = do
  updated ← updates_in (length bytes) table bytes
  fields_in (length updated.1) updated.0 65536 updated.1

-- a decoder: its table, and why it reads no more, if it does not
pub record DecoderState : Type 0 where
  pub table : Table
  pub broken : Option (Refusal HpackFault)

-- What a decoder answers to a block: its headers, or the first fault, and then the same again to each block. After want of memory it reads no more either.
abbrev pub IsAnswer : Option (Refusal HpackFault) → DecoderState → DecoderState → List ℕ → Result (List Header) (Refusal HpackFault) → Type 0
IsAnswer (Some error) old new bytes result = (result ≡ Err error) × (new ≡ old)
IsAnswer None old new bytes (Ok headers) = (block_at old.table bytes ≡ Ok (headers, new.table)) × (new.broken ≡ None)
IsAnswer None old new bytes (Err refusals.NoMemory) = new.broken ≡ Some refusals.NoMemory
IsAnswer None old new bytes (Err (refusals.For fault)) = (block_at old.table bytes ≡ Err fault) × (new.broken ≡ Some (refusals.For fault))
