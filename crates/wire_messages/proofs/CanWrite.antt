-- Rows in range can be written.
use Rattle.std.proofs.Common.{ℕ, ℤ, pos, negsuc, ◌^◌, ◌<◌, ◌≤◌, Bool, true, false, cond, eqb, ltb, leb, ◌&&◌, IsTrue, All, List, [], ◌∷◌, ◌++◌, length, map, Option, Some, None, ap, arith, lit<}
use Rattle.std.specs.List.{flat_map}
use Rattle.std.proofs.lemmas.Bool.{and_parts, ltb-true, leb-true}
use Rattle.std.proofs.lemmas.List.{length-append}
use Rattle.std.proofs.lemmas.List.Elements.{All-append, All-nil, All-cons}
use Rattle.std.proofs.lemmas.Grind.{flat_map-append}
use Rattle.wire_fields.specs.Fields.{Payload, Varint, Fixed64, Bytes, Fixed32, WireField, tag}
use Rattle.wire_fields.specs.Laws.{PayloadFits, CanBeWritten}
use Rattle.wire_fields.specs.Spelling.{varint, field_bytes, spelling}
use Rattle.wire_messages.specs.Laws.{RowsCanBeWritten}
use Rattle.wire_messages.specs.Written.{Value, Uint32, Uint64, Int32, Int64, Flag, ByteString, Text, Texts, Packed, Message, Present, Messages, Carried, ChosenUint32, ChosenBytes, two_complement, unless_zero, unless_empty, unless_default, where_given, carried_bytes, payloads, Row, row_fields, written, rising_from, IsInt32, IsInt64, InRange, RowsInRange}

-- numbers that fit; bytes are known to by the length of the whole
abbrev NumberFits : Payload → Type 0
NumberFits (Varint value) = value < 2 ^ 64
NumberFits (Fixed64 value) = value < 2 ^ 64
NumberFits (Bytes bytes) = Unit {0}
NumberFits (Fixed32 value) = value < 2 ^ 32

abbrev EachFits : List Payload → Type 0
EachFits [] = Unit {0}
EachFits (payload ∷ list) = NumberFits payload × EachFits list

unless_zero_at : (value : ℕ) (test : Bool) → value < 2 ^ 64 → EachFits (cond test [] (Varint value ∷ []))
unless_zero_at value true fits = tt
unless_zero_at value false fits = (fits, tt)

unless_zero_fits : (value : ℕ) → value < 2 ^ 64 → EachFits (unless_zero value)
unless_zero_fits value fits = unless_zero_at value (eqb value 0) fits

unless_empty_fits : (bytes : List ℕ) → EachFits (unless_empty bytes)
unless_empty_fits [] = tt
unless_empty_fits (b ∷ bytes) = (tt, tt)

unless_default_fits : (message : Option (List WireField)) → EachFits (unless_default message)
unless_default_fits None = tt
unless_default_fits (Some []) = tt
unless_default_fits (Some (field ∷ fields)) = (tt, tt)

where_given_fits : (message : Option (List WireField)) → EachFits (where_given message)
where_given_fits None = tt
where_given_fits (Some fields) = (tt, tt)

texts_fit : (texts : List (List ℕ)) → EachFits (map (λ text. Bytes text) texts)
texts_fit [] = tt
texts_fit (text ∷ texts) = (tt, texts_fit texts)

messages_fit : (messages : List (List WireField)) → EachFits (map (λ fields. Bytes (spelling fields)) messages)
messages_fit [] = tt
messages_fit (fields ∷ messages) = (tt, messages_fit messages)

int32_fits : (z : ℤ) → IsInt32 z → two_complement z < 2 ^ 64
int32_fits (pos n) fits = omega arith
int32_fits (negsuc n) fits = omega arith

int64_fits : (z : ℤ) → IsInt64 z → two_complement z < 2 ^ 64
int64_fits (pos n) fits = omega arith
int64_fits (negsuc n) fits = omega arith

flag_fits : (b : Bool) → EachFits (payloads (Flag b))
flag_fits true = (lit< tt, tt)
flag_fits false = tt

value_fits : (value : Value) → InRange value → EachFits (payloads value)
value_fits (Uint32 value) fits = unless_zero_fits value (omega arith)
value_fits (Uint64 value) fits = unless_zero_fits value fits
value_fits (Int32 value) fits = unless_zero_fits (two_complement value) (int32_fits value fits)
value_fits (Int64 value) fits = unless_zero_fits (two_complement value) (int64_fits value fits)
value_fits (Flag value) fits = flag_fits value
value_fits (ByteString value) fits = unless_empty_fits value
value_fits (Text value) fits = unless_empty_fits value
value_fits (Texts values) fits = texts_fit values
value_fits (Packed values) fits = unless_empty_fits (flat_map varint values)
value_fits (Message message) fits = unless_default_fits message
value_fits (Present message) fits = where_given_fits message
value_fits (Messages messages) fits = messages_fit messages
value_fits (Carried message) fits = unless_empty_fits (carried_bytes message)
value_fits (ChosenUint32 value) fits = (omega arith, tt)
value_fits (ChosenBytes value) fits = (tt, tt)

payload_fits : (m : ℕ) (payload : Payload) → NumberFits payload → length (field_bytes (record { number = m; payload = payload })) < 2 ^ 64 → PayloadFits payload
payload_fits m (Varint value) fits short = fits
payload_fits m (Fixed64 value) fits short = fits
payload_fits m (Bytes bytes) fits short =
    let field : WireField = record { number = m; payload = Bytes bytes } in
    let whole = length-append (varint (tag field)) (varint (length bytes) ++ bytes) in
    let inner = length-append (varint (length bytes)) bytes in
    omega arith
payload_fits m (Fixed32 value) fits short = fits

fields_fit : (m : ℕ) (list : List Payload) → 0 < m → m ≤ 536870911 → EachFits list → length (spelling (map (λ payload. let field : WireField = record { number = m; payload = payload } in field) list)) < 2 ^ 64
    → All CanBeWritten (map (λ payload. let field : WireField = record { number = m; payload = payload } in field) list)
fields_fit m [] some le fits short = All-nil CanBeWritten
fields_fit m (payload ∷ list) some le fits short =
    let field : WireField = record { number = m; payload = payload } in
    let others : List WireField = map (λ payload. let field : WireField = record { number = m; payload = payload } in field) list in
    let whole = length-append (field_bytes field) (spelling others) in
    All-cons CanBeWritten field others
    (record { not_zero = some; in_range = le; payload_fits = payload_fits m payload fits.0 (omega arith) })
    (fields_fit m list some le fits.1 (omega arith))

can_from : (low : ℕ) (rows : List Row) → IsTrue (rising_from low rows) → RowsInRange rows → length (spelling (written rows)) < 2 ^ 64 → All CanBeWritten (written rows)
unfolding written
can_from low [] up fits short = All-nil CanBeWritten
can_from low (row ∷ rows) up fits short =
    let parts = and_parts (ltb low row.number) (leb row.number 536870911 && rising_from row.number rows) up in
    let more = and_parts (leb row.number 536870911) (rising_from row.number rows) parts.1 in
    let below : low < row.number = ltb-true _ _ parts.0 in
    let here : List WireField = row_fields row.number row.value in
    let split = ap length (flat_map-append field_bytes here (written rows)) in
    let whole = length-append (spelling here) (spelling (written rows)) in
    All-append CanBeWritten here (written rows)
    (fields_fit row.number (payloads row.value) (omega arith) (leb-true _ _ more.0) (value_fits row.value fits.0) (omega arith))
    (can_from row.number rows more.1 fits.1 (omega arith))

pub rows_can_be_written : RowsCanBeWritten
rows_can_be_written rows up fits short = can_from 0 rows up fits short
