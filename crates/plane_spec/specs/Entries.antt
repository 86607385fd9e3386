-- The entries of the tables: which one a key takes, and what changes them (P4Runtime 1.3.0, "Table entries").
use Rattle.std.specs.Prelude.{ℕ, ◌+◌, ◌-◌, ◌/◌, ◌^◌, ◌==◌, ◌&&◌, ◌||◌, not, nat_lt, nat_le, int_lt, bit_and, Bool, true, false, if◌then◌else◌, List, [], ◌∷◌, ◌++◌, length, filter, find, map, count_by, Option, Some, None, is_some}
use Rattle.std.specs.List.{list_any}
use Rattle.std.specs.Ordering.{int_eq}
use Rattle.p4_types.specs.declared.code.Cause.{Cause}
use Rattle.p4_types.specs.declared.code.Code.TheVariants as codes
use Rattle.p4_types.specs.declared.code.Rule.TheVariants as rules
use Rattle.p4_types.specs.declared.info.Table.{Table}
use Rattle.p4_types.specs.declared.table.Entry.{Entry}
use Rattle.p4_types.specs.declared.table.EntryChange.{EntryChange}
use Rattle.p4_types.specs.declared.table.EntryName.{EntryName}
use Rattle.p4_types.specs.declared.keys.FieldTest.{FieldTest}
use Rattle.p4_types.specs.declared.keys.FieldTest.TheVariants as tests
use Rattle.p4_types.specs.declared.table.Room.{Room}

-- the first so many bits of a number of some width
abbrev pub prefix_bits : ℕ → ℕ → ℕ → ℕ
prefix_bits length width value = value / 2 ^ (width - length)

-- The value of a field passes the test: it is equal, or equal in the first bits, or equal under the mask, or in the range.
abbrev pub passes : FieldTest → ℕ → Bool
passes tests.Any key = true
passes (tests.Equal value) key = key == value
passes (tests.Prefix value length width) key = prefix_bits length width key == prefix_bits length width value
passes (tests.Masked value mask) key = bit_and key mask == bit_and value mask
passes (tests.Between low high) key = nat_le low key && nat_le key high

-- each field's value passes its test
abbrev pub all_pass : List FieldTest → List ℕ → Bool
all_pass [] [] = true
all_pass [] (key ∷ keys) = false
all_pass (test ∷ tests) [] = false
all_pass (test ∷ tests) (key ∷ keys) = passes test key && all_pass tests keys

-- the entry is one of the table's that the key hits
abbrev pub hits : ℕ → List ℕ → Entry → Bool
hits table key entry = (entry.name.table == table) && all_pass entry.name.tests key

-- how long a prefix the match has: that of its first longest-prefix field, of which a table has one at most
abbrev pub prefix_length : List FieldTest → ℕ
prefix_length [] = 0
prefix_length (tests.Prefix value length width ∷ others) = length
prefix_length (tests.Any ∷ others) = prefix_length others
prefix_length (tests.Equal value ∷ others) = prefix_length others
prefix_length (tests.Masked value mask ∷ others) = prefix_length others
prefix_length (tests.Between low high ∷ others) = prefix_length others

-- by greater priority, then by longer prefix, then by lower sequence number
abbrev pub beats : Entry → Entry → Bool
beats a b =
    if int_lt b.name.priority a.name.priority then true else
    if int_lt a.name.priority b.name.priority then false else
    if nat_lt (prefix_length b.name.tests) (prefix_length a.name.tests) then true else
    if nat_lt (prefix_length a.name.tests) (prefix_length b.name.tests) then false else
    nat_lt a.seq b.seq

-- The entry that a key takes: the one that it hits and that no other hitting entry beats.
unfoldable pub best : ℕ → List ℕ → List Entry → Option Entry
best table key entries =
    let hitting = filter (hits table key) entries in
    find (λ entry. not (list_any (λ other. beats other entry) hitting)) hitting

-- two tests of a field are the same
abbrev pub same_test : FieldTest → FieldTest → Bool
same_test tests.Any tests.Any = true
same_test (tests.Equal a) (tests.Equal b) = a == b
same_test (tests.Prefix a l w) (tests.Prefix b m v) = (a == b) && (l == m) && (w == v)
same_test (tests.Masked a m) (tests.Masked b n) = (a == b) && (m == n)
same_test (tests.Between a m) (tests.Between b n) = (a == b) && (m == n)
same_test _ _ = false

-- the same for two lists of tests, field by field
abbrev pub same_tests : List FieldTest → List FieldTest → Bool
same_tests [] [] = true
same_tests [] (b ∷ bs) = false
same_tests (a ∷ others) [] = false
same_tests (a ∷ others) (b ∷ bs) = same_test a b && same_tests others bs

-- the same table, match and priority
abbrev pub same_name : EntryName → EntryName → Bool
same_name a b = (a.table == b.table) && int_eq a.priority b.priority && same_tests a.tests b.tests

-- the entry of that name
unfoldable pub entry_named : EntryName → List Entry → Option Entry
entry_named name entries = find (λ entry. same_name name entry.name) entries

-- how many entries a table may have; a size of 0 leaves the number to the switch, which takes 1,024
abbrev pub table_size : Table → ℕ
table_size table = if table.size == 0 then 1024 else table.size

-- whether the entries of a table count their packets: it has a direct counter
abbrev pub is_counted : Table → Bool
is_counted table = not (length table.direct_counters == 0)

-- how many slots an INSERT into the table draws
abbrev pub slots_drawn : Table → ℕ
slots_drawn table = if is_counted table then 1 else 0

-- as many slots as there may be: a slot is a number of 32 bits
abbrev pub slot_numbers : ℕ
slot_numbers = 2 ^ 32 - 1

-- the sequence number that an INSERT draws
abbrev pub next_number : Room → ℕ
next_number room = 2 ^ 64 - 1 - room.numbers

-- how many entries the table has
abbrev pub entries_of : Table → List Entry → ℕ
entries_of table entries = count_by (λ entry. entry.name.table == table.preamble.id) entries

-- U12: with one entry more the table would exceed its size, or what it needs, with so many rows, is more than what is left of rows, slots or sequence numbers
abbrev pub is_full : Table → ℕ → Room → List Entry → Bool
is_full table rows room entries =
    nat_lt (table_size table) (entries_of table entries + 1)
    || nat_lt room.rows rows || nat_lt room.slots (slots_drawn table) || nat_lt room.numbers 1

-- U10: an INSERT of what is present; U12 on the entry by itself, which takes so many rows
unfoldable pub insert_cause : Table → ℕ → Room → EntryName → List Entry → Option Cause
insert_cause table rows room name entries =
    if is_some (entry_named name entries) then Some (record { rule = rules.U10; code = codes.AlreadyExists }) else
    if is_full table rows room entries then Some (record { rule = rules.U12; code = codes.ResourceExhausted }) else None

-- U10: a MODIFY or a DELETE of what is absent
unfoldable pub absence_cause : EntryName → List Entry → Option Cause
absence_cause name entries = if is_some (entry_named name entries) then None else Some (record { rule = rules.U10; code = codes.NotFound })

-- the entry that an INSERT makes
abbrev pub new_entry : Table → Room → EntryChange → Entry
new_entry table room change = record {
  name = change.name;
  seq = next_number room;
  controller_metadata = change.controller_metadata;
  action = change.action;
  slot = if is_counted table then Some room.next_slot else None;
}

-- Entries stand by rising table id, those of one table by rising sequence number: a new one stands behind those of its table.
unfoldable pub inserted : Entry → List Entry → List Entry
inserted entry entries =
    filter (λ other. nat_le other.name.table entry.name.table) entries ++ entry ∷ filter (λ other. nat_lt entry.name.table other.name.table) entries

-- a MODIFY replaces action and metadata, and keeps place, sequence number and slot
abbrev pub with_change : EntryChange → Entry → Entry
with_change change entry = record entry { controller_metadata = change.controller_metadata; action = change.action }

-- the entries after a MODIFY of the one of that name
unfoldable pub modified : EntryChange → List Entry → List Entry
modified change entries = map (λ entry. if same_name change.name entry.name then with_change change entry else entry) entries

-- the entries after a DELETE of the one of that name
unfoldable pub deleted : EntryName → List Entry → List Entry
deleted name entries = filter (λ entry. not (same_name name entry.name)) entries
