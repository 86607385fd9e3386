-- How large a dynamic table is behind a header block.
use Rattle.std.proofs.Common.{◌≡◌, ℕ, zero, suc, ◌-◌, ◌≤◌, Bool, true, false, List, [], ◌∷◌, length, Result, Ok, Err, refl, arith, inl, inr}
use Rattle.std.specs.Prelude.{nat_lt, nat_le, slice_index, sum_by, if◌then◌else◌}
use Rattle.std.proofs.lemmas.List.Sums.{sum_by-cons}
use Rattle.std.proofs.lemmas.Bool.{cases_lt, lt-ltb, le-ltb, ltb-false}
use Rattle.hpack_tables.specs.declared.fault.HpackFault.{HpackFault}
use Rattle.hpack_tables.specs.declared.fault.HpackFault.TheVariants as faults
use Rattle.hpack_tables.specs.declared.header.Header.{Header}
use Rattle.list_types.specs.Results.{◌>>=◌, unless}
use Rattle.hpack_tables.specs.Integers.{integer_at}
use Rattle.hpack_tables.specs.Tables.{Table, entry_size, fitting, inserted, resized}
use Rattle.hpack_tables.specs.Blocks.{indexed_at, literal_at, kept, added, field_at, fields_in, is_update, update_at, updates_in, block_at}

-- the entries have room, and the maximum is not above 4,096
pub record IsSmall (table : Table) : Type 0 where
  pub entries : sum_by entry_size table.entries ≤ 4096
  pub max_size : table.max_size ≤ 4096

fitting_fit : (room : ℕ) (entries : List Header) → sum_by entry_size (fitting room entries) ≤ room
unfolding fitting
fitting_fit room [] = omega arith
fitting_fit room (entry ∷ entries) =
    elim (cases_lt room (entry_size entry)) [
      | inl lt ↦ rw (lt-ltb room (entry_size entry) lt) (omega arith)
      | inr le ↦ rw (le-ltb room (entry_size entry) le) (omega (arith, sum_by-cons entry_size entry (fitting (room - entry_size entry) entries), fitting_fit (room - entry_size entry) entries))
    ]

inserted_small : (entry : Header) (table : Table) → IsSmall table → IsSmall (inserted entry table)
inserted_small entry table s = record { entries = omega (arith, fitting_fit table.max_size (entry ∷ table.entries), s.max_size); max_size = s.max_size }

resized_small : (size : ℕ) (table : Table) → size ≤ 4096 → IsSmall (resized size table)
resized_small size table le = record { entries = omega (arith, fitting_fit size table.entries, le); max_size = le }

-- ---- what is read leaves a table that is small

abbrev FieldSmall : Result (Header × Table × List ℕ) HpackFault → Type 0
FieldSmall (Ok x) = IsSmall x.1
FieldSmall (Err fault) = Unit {0}

abbrev UpdateSmall : Result (Table × List ℕ) HpackFault → Type 0
UpdateSmall (Ok x) = IsSmall x.0
UpdateSmall (Err fault) = Unit {0}

abbrev pub FieldsSmall : Result (List Header × Table) HpackFault → Type 0
FieldsSmall (Ok x) = IsSmall x.1
FieldsSmall (Err fault) = Unit {0}

kept_small : (table : Table) (read : Result (Header × List ℕ) HpackFault) → IsSmall table → FieldSmall (kept table read)
kept_small table (Ok x) s = s
kept_small table (Err fault) s = tt

added_small : (table : Table) (read : Result (Header × List ℕ) HpackFault) → IsSmall table → FieldSmall (added table read)
added_small table (Ok x) s = inserted_small x.0 table s
added_small table (Err fault) s = tt

field_unless : (broken : Bool) (fault : HpackFault) (read : Result (Header × Table × List ℕ) HpackFault) → FieldSmall read → FieldSmall (unless broken fault read)
field_unless true fault read s = tt
field_unless false fault read s = s

field_if : (b : Bool) (x y : Result (Header × Table × List ℕ) HpackFault) → FieldSmall x → FieldSmall y → FieldSmall (if b then x else y)
field_if true x y sx sy = sx
field_if false x y sx sy = sy

field_small : (table : Table) (bytes : List ℕ) → IsSmall table → FieldSmall (field_at table bytes)
unfolding field_at
field_small table bytes s =
    let last : Result (Header × Table × List ℕ) HpackFault = unless (nat_le 32 (slice_index bytes 0)) faults.TableSize (kept table (literal_at 4 table bytes)) in
    let literal : Result (Header × Table × List ℕ) HpackFault = if nat_le 64 (slice_index bytes 0) then added table (literal_at 6 table bytes) else last in
    field_if (nat_le 128 (slice_index bytes 0)) (kept table (indexed_at table bytes)) literal (kept_small table (indexed_at table bytes) s)
    (field_if (nat_le 64 (slice_index bytes 0)) (added table (literal_at 6 table bytes)) last (added_small table (literal_at 6 table bytes) s)
    (field_unless (nat_le 32 (slice_index bytes 0)) faults.TableSize (kept table (literal_at 4 table bytes)) (kept_small table (literal_at 4 table bytes) s)))

fields_unless : (broken : Bool) (fault : HpackFault) (read : Result (List Header × Table) HpackFault) → FieldsSmall read → FieldsSmall (unless broken fault read)
fields_unless true fault read s = tt
fields_unless false fault read s = s

-- a header before others
with_first : (first : Header) (read : Result (List Header × Table) HpackFault) → FieldsSmall read → FieldsSmall (read >>= λ others. Ok (first ∷ others.0, others.1))
with_first first (Ok x) s = s
with_first first (Err fault) s = tt

fields_behind : (read : Result (Header × Table × List ℕ) HpackFault) (f : Header × Table × List ℕ → Result (List Header × Table) HpackFault) → FieldSmall read → ((x : Header × Table × List ℕ) → IsSmall x.1 → FieldsSmall (f x)) → FieldsSmall (read >>= f)
fields_behind (Ok x) f s k = k x s
fields_behind (Err fault) f s k = tt

fields_small : (more : ℕ) (table : Table) (room : ℕ) (bytes : List ℕ) → IsSmall table → FieldsSmall (fields_in more table room bytes)
unfolding fields_in
fields_small zero table room bytes s = s
fields_small (suc more) table room [] s = s
fields_small (suc more) table room (byte ∷ bytes) s =
    let f : Header × Table × List ℕ → Result (List Header × Table) HpackFault = λ field.
    unless (nat_lt room (entry_size field.0)) faults.ListTooLong (fields_in more field.1 (room - entry_size field.0) field.2 >>= λ others. Ok (field.0 ∷ others.0, others.1)) in
    fields_behind (field_at table (byte ∷ bytes)) f (field_small table (byte ∷ bytes) s)
    (λ field t. fields_unless (nat_lt room (entry_size field.0)) faults.ListTooLong (fields_in more field.1 (room - entry_size field.0) field.2 >>= λ others. Ok (field.0 ∷ others.0, others.1))
    (with_first field.0 (fields_in more field.1 (room - entry_size field.0) field.2) (fields_small more field.1 (room - entry_size field.0) field.2 t)))

sized : (size : ℕ) (rest : List ℕ) (table : Table) (b : Bool) → nat_lt 4096 size ≡ b → UpdateSmall (unless b faults.TableSize (Ok (resized size table, rest)))
sized size rest table true e = tt
sized size rest table false e = resized_small size table (ltb-false 4096 size e)

update_behind : (read : Result (ℕ × List ℕ) HpackFault) (table : Table) → UpdateSmall (read >>= λ size. unless (nat_lt 4096 size.0) faults.TableSize (Ok (resized size.0 table, size.1)))
update_behind (Ok x) table = sized x.0 x.1 table (nat_lt 4096 x.0) refl
update_behind (Err fault) table = tt

update_small : (table : Table) (bytes : List ℕ) → UpdateSmall (update_at table bytes)
unfolding update_at
update_small table bytes = update_behind (integer_at 5 faults.TableSize bytes) table

updates_behind : (read : Result (Table × List ℕ) HpackFault) (f : Table × List ℕ → Result (Table × List ℕ) HpackFault) → UpdateSmall read → ((x : Table × List ℕ) → IsSmall x.0 → UpdateSmall (f x)) → UpdateSmall (read >>= f)
updates_behind (Ok x) f s k = k x s
updates_behind (Err fault) f s k = tt

update_if : (b : Bool) (x y : Result (Table × List ℕ) HpackFault) → UpdateSmall x → UpdateSmall y → UpdateSmall (if b then x else y)
update_if true x y sx sy = sx
update_if false x y sx sy = sy

updates_small : (more : ℕ) (table : Table) (bytes : List ℕ) → IsSmall table → UpdateSmall (updates_in more table bytes)
unfolding updates_in
updates_small zero table bytes s = s
updates_small (suc more) table bytes s =
    let f : Table × List ℕ → Result (Table × List ℕ) HpackFault = λ updated. updates_in more updated.0 updated.1 in
    update_if (is_update bytes) (update_at table bytes >>= f) (Ok (table, bytes)) (updates_behind (update_at table bytes) f (update_small table bytes) (λ x t. updates_small more x.0 x.1 t)) s

fields_after : (read : Result (Table × List ℕ) HpackFault) → UpdateSmall read → FieldsSmall (read >>= λ updated. fields_in (length updated.1) updated.0 65536 updated.1)
fields_after (Ok x) s = fields_small (length x.1) x.0 65536 x.1 s
fields_after (Err fault) s = tt

pub block_small : (table : Table) (bytes : List ℕ) → IsSmall table → FieldsSmall (block_at table bytes)
unfolding block_at
block_small table bytes s = fields_after (updates_in (length bytes) table bytes) (updates_small (length bytes) table bytes s)
