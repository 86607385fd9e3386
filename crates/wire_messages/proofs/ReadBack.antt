-- What is read of the fields that rows are written as.
use Rattle.std.proofs.Common.{◌≡◌, ℕ, zero, suc, ℤ, pos, negsuc, ◌-◌, ◌^◌, ◌<◌, ◌≤◌, Bool, true, false, cond, eqb, ltb, leb, ◌&&◌, ◌||◌, IsTrue, All, List, [], ◌∷◌, ◌++◌, length, map, Option, Some, None, Ok, refl, sym, ap, ◌∙◌, append_assoc, arith}
use Rattle.std.specs.List.{filter, flat_map, list_all, list_any}
use Rattle.std.specs.Option.{option_map}
use Rattle.std.specs.Str.{IsUtf8}
use Rattle.std.proofs.lemmas.Bool.{eqb-true, ne_eqb, and_parts, lt-ltb, le-ltb, ltb-true, le-leb}
use Rattle.std.proofs.lemmas.List.{append-nil, map-append, length-append}
use Rattle.std.proofs.lemmas.List.Elements.{filter-append, All-head, All-tail}
use Rattle.std.proofs.lemmas.Grind.{flat_map-append}
use Rattle.std.proofs.lemmas.Str.{is_utf8-from_IsUtf8}
use Rattle.wire_fields.specs.Fields.{Payload, Varint, Bytes, WireField}
use Rattle.wire_fields.specs.Reading.{varint_at}
use Rattle.canon_bytes.specs.Base128.{base_128}
use Rattle.wire_fields.specs.Spelling.{varint, field_bytes, spelling}
use Rattle.wire_fields.proofs.Shortest.{is_varint}
use Rattle.wire_fields.proofs.Varints.{varint_again}
use Rattle.list_types.specs.Options.{◌>>=◌}
use Rattle.wire_messages.specs.Message.{each, last_or, flatten, given, varint_of, bytes_of, as_text, numbers_of, packed_in, at_most_one, is_given, only_known, number_at, uint32_at, uint64_at, int32_at, int64_at, bool_at, uint32s_at, bytes_at, text_at, texts_at, messages_at, message_at, choice_at}
use Rattle.wire_messages.specs.Numbers.{as_uint32, as_uint64, as_int32, as_int64, as_bool}
use Rattle.wire_messages.specs.Laws.{WrittenIsRead, RowByRow}
use Rattle.wire_messages.specs.Written.{Uint32, Uint64, Int32, Int64, Flag, ByteString, Text, Texts, Packed, Message, Present, Messages, Carried, ChosenUint32, ChosenBytes, two_complement, unless_zero, unless_empty, unless_default, where_given, payloads, Row, row_fields, written, row_bytes, rising_from, rising, IsInt32, IsInt64, look, has_payload, sent}

-- ---- the payloads under a number

given_append : (n : ℕ) (xs ys : List WireField) → given n (xs ++ ys) ≡ given n xs ++ given n ys
given_append n xs ys = ap (λ l. map (λ (field : WireField). field.payload) l) (filter-append (λ (field : WireField). eqb field.number n) xs ys) ∙ map-append _ _ _

abbrev fields_under : ℕ → List Payload → List WireField
fields_under m list = map (λ payload. let field : WireField = record { number = m; payload = payload } in field) list

given_same : (n m : ℕ) (list : List Payload) → eqb m n ≡ true → given n (fields_under m list) ≡ list
given_same n m [] e = refl
given_same n m (x ∷ list) e = rw e (ap (λ l. x ∷ l) (given_same n m list e))

given_other : (n m : ℕ) (list : List Payload) → eqb m n ≡ false → given n (fields_under m list) ≡ []
given_other n m [] e = refl
given_other n m (x ∷ list) e = rw e (given_other n m list e)

not_equal : (n r low : ℕ) → n ≤ low → low < r → eqb r n ≡ false
not_equal n r low le lt = ne_eqb r n (λ e. omega arith)

pub none_given : (n low : ℕ) (rows : List Row) → n ≤ low → IsTrue (rising_from low rows) → given n (written rows) ≡ []
unfolding written
none_given n low [] le up = refl
none_given n low (row ∷ rows) le up =
    let parts = and_parts (ltb low row.number) (leb row.number 536870911 && rising_from row.number rows) up in
    let more = and_parts (leb row.number 536870911) (rising_from row.number rows) parts.1 in
    let below : low < row.number = ltb-true _ _ parts.0 in
    given_append n (row_fields row.number row.value) (written rows)
    ∙ ap (λ l. l ++ given n (written rows)) (given_other n row.number (payloads row.value) (not_equal n row.number low le below))
    ∙ none_given n row.number rows (omega arith) more.1

found_at : (n : ℕ) (row : Row) (rows : List Row) (test : Bool) → eqb row.number n ≡ test → IsTrue (rising_from row.number rows) → given n (written rows) ≡ look n rows
    → given n (written (row ∷ rows)) ≡ cond test (payloads row.value) (look n rows)
unfolding written
found_at n row rows true e up others =
    given_append n (row_fields row.number row.value) (written rows)
    ∙ ap (λ l. l ++ given n (written rows)) (given_same n row.number (payloads row.value) e)
    ∙ ap (λ l. payloads row.value ++ l) (none_given n row.number rows (let same = eqb-true row.number n e in omega arith) up)
    ∙ append-nil (payloads row.value)
found_at n row rows false e up others =
    given_append n (row_fields row.number row.value) (written rows)
    ∙ ap (λ l. l ++ given n (written rows)) (given_other n row.number (payloads row.value) e)
    ∙ others

found_from : (n low : ℕ) (rows : List Row) → IsTrue (rising_from low rows) → given n (written rows) ≡ look n rows
unfolding written
found_from n low [] up = refl
found_from n low (row ∷ rows) up =
    let parts = and_parts (ltb low row.number) (leb row.number 536870911 && rising_from row.number rows) up in
    let more = and_parts (leb row.number 536870911) (rising_from row.number rows) parts.1 in
    found_at n row rows (eqb row.number n) refl more.1 (found_from n row.number rows more.1)

-- of rows with rising numbers those payloads are given under a number that its row has
pub found : (n : ℕ) (rows : List Row) → IsTrue (rising rows) → given n (written rows) ≡ look n rows
found n rows up = found_from n 0 rows up

-- ---- numbers

number_from : {A : Type 0} (read : ℕ → Option A) (default : A) (v : ℕ) (x : A) (list : List Payload) (test : Bool) → eqb v 0 ≡ test → list ≡ cond test [] (Varint v ∷ []) → read v ≡ Some x → (v ≡ 0 → default ≡ x)
    → (each (λ payload. varint_of payload >>= read) list >>= λ values. Some (last_or default values)) ≡ Some x
number_from read default v x list true e is reads zero_is = rw is (ap (λ y. Some y) (zero_is (eqb-true v 0 e)))
number_from read default v x list false e is reads zero_is = rw (is, reads) refl

number_back : {A : Type 0} (read : ℕ → Option A) (default : A) (n : ℕ) (rows : List Row) (v : ℕ) (x : A) → IsTrue (rising rows) → look n rows ≡ unless_zero v → read v ≡ Some x → (v ≡ 0 → default ≡ x)
    → number_at read default n (written rows) ≡ Some x
unfolding number_at
number_back read default n rows v x up is reads zero_is = number_from read default v x (given n (written rows)) (eqb v 0) refl (found n rows up ∙ is) reads zero_is

pub uint32_back : (n : ℕ) (rows : List Row) (v : ℕ) → IsTrue (rising rows) → look n rows ≡ payloads (Uint32 v) → v < 2 ^ 32 → uint32_at n (written rows) ≡ Some v
uint32_back n rows v up is fits = number_back as_uint32 0 n rows v v up is (rw (lt-ltb v (2 ^ 32) fits) refl) (λ e. sym e)

pub uint64_back : (n : ℕ) (rows : List Row) (v : ℕ) → IsTrue (rising rows) → look n rows ≡ payloads (Uint64 v) → uint64_at n (written rows) ≡ Some v
uint64_back n rows v up is = number_back as_uint64 0 n rows v v up is refl (λ e. sym e)

int32_again : (z : ℤ) → IsInt32 z → as_int32 (two_complement z) ≡ Some z
int32_again (pos n) fits = rw (lt-ltb n (2 ^ 31) fits) refl
int32_again (negsuc n) fits =
    let high : ltb (2 ^ 64 - 1 - n) (2 ^ 31) ≡ false = le-ltb (2 ^ 64 - 1 - n) (2 ^ 31) (omega arith) in
    let low : leb (2 ^ 64 - 2 ^ 31) (2 ^ 64 - 1 - n) ≡ true = le-leb (2 ^ 64 - 2 ^ 31) (2 ^ 64 - 1 - n) (omega arith) in
    let back : 2 ^ 64 - 1 - (2 ^ 64 - 1 - n) ≡ n = omega arith in
    rw (high, low) (ap (λ x. Some (negsuc x)) back)

int64_again : (z : ℤ) → IsInt64 z → as_int64 (two_complement z) ≡ Some z
int64_again (pos n) fits = rw (lt-ltb n (2 ^ 63) fits) refl
int64_again (negsuc n) fits =
    let high : ltb (2 ^ 64 - 1 - n) (2 ^ 63) ≡ false = le-ltb (2 ^ 64 - 1 - n) (2 ^ 63) (omega arith) in
    let back : 2 ^ 64 - 1 - (2 ^ 64 - 1 - n) ≡ n = omega arith in
    rw high (ap (λ x. Some (negsuc x)) back)

zero_of32 : (z : ℤ) → IsInt32 z → two_complement z ≡ 0 → pos 0 ≡ z
zero_of32 (pos n) fits e = ap pos (sym e)
zero_of32 (negsuc n) fits e = absurd (omega arith)

zero_of64 : (z : ℤ) → IsInt64 z → two_complement z ≡ 0 → pos 0 ≡ z
zero_of64 (pos n) fits e = ap pos (sym e)
zero_of64 (negsuc n) fits e = absurd (omega arith)

pub int32_back : (n : ℕ) (rows : List Row) (z : ℤ) → IsTrue (rising rows) → look n rows ≡ payloads (Int32 z) → IsInt32 z → int32_at n (written rows) ≡ Some z
int32_back n rows z up is fits = number_back as_int32 (pos 0) n rows (two_complement z) z up is (int32_again z fits) (zero_of32 z fits)

pub int64_back : (n : ℕ) (rows : List Row) (z : ℤ) → IsTrue (rising rows) → look n rows ≡ payloads (Int64 z) → IsInt64 z → int64_at n (written rows) ≡ Some z
int64_back n rows z up is fits = number_back as_int64 (pos 0) n rows (two_complement z) z up is (int64_again z fits) (zero_of64 z fits)

flag_from : (b : Bool) (list : List Payload) → list ≡ cond b (Varint 1 ∷ []) [] → (each (λ payload. varint_of payload >>= as_bool) list >>= λ values. Some (last_or false values)) ≡ Some b
flag_from true list e = rw e refl
flag_from false list e = rw e refl

pub flag_back : (n : ℕ) (rows : List Row) (b : Bool) → IsTrue (rising rows) → look n rows ≡ payloads (Flag b) → bool_at n (written rows) ≡ Some b
unfolding number_at
flag_back n rows b up is = flag_from b (given n (written rows)) (found n rows up ∙ is)

pub chosen_uint32_back : (n : ℕ) (rows : List Row) (v : ℕ) → IsTrue (rising rows) → look n rows ≡ payloads (ChosenUint32 v) → v < 2 ^ 32 → uint32_at n (written rows) ≡ Some v
unfolding number_at
chosen_uint32_back n rows v up is fits = rw (found n rows up ∙ is, lt-ltb v (2 ^ 32) fits) refl

-- ---- bytes and texts

bytes_from : (bytes : List ℕ) (list : List Payload) → list ≡ unless_empty bytes → (each bytes_of list >>= λ values. Some (last_or [] values)) ≡ Some bytes
bytes_from [] list e = rw e refl
bytes_from (b ∷ bytes) list e = rw e refl

pub bytes_back : (n : ℕ) (rows : List Row) (bytes : List ℕ) → IsTrue (rising rows) → look n rows ≡ payloads (ByteString bytes) → bytes_at n (written rows) ≡ Some bytes
unfolding bytes_at
bytes_back n rows bytes up is = bytes_from bytes (given n (written rows)) (found n rows up ∙ is)

pub chosen_bytes_back : (n : ℕ) (rows : List Row) (bytes : List ℕ) → IsTrue (rising rows) → look n rows ≡ payloads (ChosenBytes bytes) → bytes_at n (written rows) ≡ Some bytes
unfolding bytes_at
chosen_bytes_back n rows bytes up is = rw (found n rows up ∙ is) refl

text_from : (text : List ℕ) (list : List Payload) → IsUtf8 text → list ≡ unless_empty text → (each (λ payload. bytes_of payload >>= as_text) list >>= λ values. Some (last_or [] values)) ≡ Some text
text_from [] list utf8 e = rw e refl
text_from (b ∷ text) list utf8 e = rw (e, is_utf8-from_IsUtf8 (b ∷ text) utf8) refl

pub text_back : (n : ℕ) (rows : List Row) (text : List ℕ) → IsTrue (rising rows) → look n rows ≡ payloads (Text text) → IsUtf8 text → text_at n (written rows) ≡ Some text
unfolding text_at
text_back n rows text up is utf8 = text_from text (given n (written rows)) utf8 (found n rows up ∙ is)

texts_from : (texts : List (List ℕ)) → All IsUtf8 texts → each (λ payload. bytes_of payload >>= as_text) (map (λ text. Bytes text) texts) ≡ Some texts
texts_from [] utf8 = refl
texts_from (text ∷ texts) utf8 = rw (is_utf8-from_IsUtf8 text (All-head IsUtf8 text texts utf8), texts_from texts (All-tail IsUtf8 text texts utf8)) refl

pub texts_back : (n : ℕ) (rows : List Row) (texts : List (List ℕ)) → IsTrue (rising rows) → look n rows ≡ payloads (Texts texts) → All IsUtf8 texts → texts_at n (written rows) ≡ Some texts
unfolding texts_at
texts_back n rows texts up is utf8 = rw (found n rows up ∙ is) (texts_from texts utf8)

-- ---- packed numbers

packed_first : (steps : ℕ) (bytes : List ℕ) (x : ℕ) (rest : List ℕ) → 0 < length bytes → varint_at bytes ≡ Ok (x, rest)
    → packed_in as_uint32 (suc steps) bytes ≡ (as_uint32 x >>= λ first. packed_in as_uint32 steps rest >>= λ others. Some (first ∷ others))
unfolding packed_in
packed_first steps [] x rest some e = absurd (omega arith)
packed_first steps (b ∷ bytes) x rest some e = rw e refl

nothing_packed : (steps : ℕ) → packed_in as_uint32 steps [] ≡ Some []
unfolding packed_in
nothing_packed zero = refl
nothing_packed (suc steps) = refl

some_bytes : (test : Bool) (x y : ℕ) (rest : List ℕ) → 0 < length (cond test (x ∷ []) (y ∷ rest))
some_bytes true x y rest = omega arith
some_bytes false x y rest = omega arith

varint_some : (value : ℕ) → 0 < length (varint value)
unfolding base_128
varint_some value = some_bytes (ltb value 128) value _ _

packed_from : (steps : ℕ) (values : List ℕ) → All (λ value. value < 2 ^ 32) values → length (flat_map varint values) ≤ steps → packed_in as_uint32 steps (flat_map varint values) ≡ Some values
packed_from steps [] fits enough = nothing_packed steps
packed_from zero (x ∷ values) fits enough =
    let some = varint_some x in
    let long = length-append (varint x) (flat_map varint values) in
    absurd (omega arith)
packed_from (suc steps) (x ∷ values) fits enough =
    let some = varint_some x in
    let long = length-append (varint x) (flat_map varint values) in
    let small = All-head (λ value. value < 2 ^ 32) x values fits in
    let again = varint_again (varint x) (flat_map varint values) x (is_varint x (omega arith)) in
    let others = packed_from steps values (All-tail (λ value. value < 2 ^ 32) x values fits) (omega arith) in
    packed_first steps (varint x ++ flat_map varint values) x (flat_map varint values) (omega arith) again
    ∙ rw (lt-ltb x (2 ^ 32) small, others) refl

unpacked : (bytes values : List ℕ) (list : List Payload) → packed_in as_uint32 (length bytes) bytes ≡ Some values → list ≡ unless_empty bytes → (each (numbers_of as_uint32) list >>= λ lists. Some (flatten lists)) ≡ Some values
unpacked [] values list e is = rw is (sym (nothing_packed 0) ∙ e)
unpacked (b ∷ bytes) values list e is = rw (is, e) (ap (λ x. Some x) (append-nil values))

pub packed_back : (n : ℕ) (rows : List Row) (values : List ℕ) → IsTrue (rising rows) → look n rows ≡ payloads (Packed values) → All (λ value. value < 2 ^ 32) values → uint32s_at n (written rows) ≡ Some values
unfolding uint32s_at
packed_back n rows values up is fits =
    unpacked (flat_map varint values) values (given n (written rows)) (packed_from (length (flat_map varint values)) values fits (omega arith)) (found n rows up ∙ is)

-- ---- messages

messages_from : (messages : List (List WireField)) → each bytes_of (map (λ fields. Bytes (spelling fields)) messages) ≡ Some (map spelling messages)
messages_from [] = refl
messages_from (fields ∷ messages) = rw (messages_from messages) refl

pub messages_back : (n : ℕ) (rows : List Row) (messages : List (List WireField)) → IsTrue (rising rows) → look n rows ≡ payloads (Messages messages) → messages_at n (written rows) ≡ Some (map spelling messages)
unfolding messages_at
messages_back n rows messages up is = rw (found n rows up ∙ is) (messages_from messages)

message_from : (message : Option (List WireField)) (list : List Payload) → list ≡ unless_default message → (each bytes_of list >>= at_most_one) ≡ Some (sent (unless_default message))
message_from None list e = rw e refl
message_from (Some []) list e = rw e refl
message_from (Some (field ∷ fields)) list e = rw e refl

pub message_back : (n : ℕ) (rows : List Row) (message : Option (List WireField)) → IsTrue (rising rows) → look n rows ≡ payloads (Message message) → message_at n (written rows) ≡ Some (sent (unless_default message))
unfolding message_at messages_at
message_back n rows message up is = message_from message (given n (written rows)) (found n rows up ∙ is)

present_from : (message : Option (List WireField)) (list : List Payload) → list ≡ where_given message → (each bytes_of list >>= at_most_one) ≡ Some (option_map spelling message)
present_from None list e = rw e refl
present_from (Some fields) list e = rw e refl

pub present_back : (n : ℕ) (rows : List Row) (message : Option (List WireField)) → IsTrue (rising rows) → look n rows ≡ payloads (Present message) → message_at n (written rows) ≡ Some (option_map spelling message)
unfolding message_at messages_at
present_back n rows message up is = present_from message (given n (written rows)) (found n rows up ∙ is)

carried_from : (bytes : List ℕ) (list : List Payload) → list ≡ unless_empty bytes → (each bytes_of list >>= at_most_one) ≡ Some (sent (unless_empty bytes))
carried_from [] list e = rw e refl
carried_from (b ∷ bytes) list e = rw e refl

pub carried_back : (n : ℕ) (rows : List Row) (message : Option (List ℕ)) → IsTrue (rising rows) → look n rows ≡ payloads (Carried message) → message_at n (written rows) ≡ Some (sent (payloads (Carried message)))
unfolding message_at messages_at
carried_back n rows message up is = carried_from _ (given n (written rows)) (found n rows up ∙ is)

-- ---- which fields are given

given_by : (n : ℕ) (fields : List WireField) (kept : List WireField) (field : WireField) (test : Bool) → list_any (λ (field : WireField). eqb field.number n) fields ≡ has_payload (map (λ (field : WireField). field.payload) kept)
    → (test || list_any (λ (field : WireField). eqb field.number n) fields) ≡ has_payload (map (λ (field : WireField). field.payload) (cond test (field ∷ kept) kept))
given_by n fields kept field true e = refl
given_by n fields kept field false e = e

is_given_has : (n : ℕ) (fields : List WireField) → is_given n fields ≡ has_payload (given n fields)
is_given_has n [] = refl
is_given_has n (field ∷ fields) = given_by n fields (filter (λ (field : WireField). eqb field.number n) fields) field (eqb field.number n) (is_given_has n fields)

pub is_given_back : (n : ℕ) (rows : List Row) → IsTrue (rising rows) → is_given n (written rows) ≡ has_payload (look n rows)
is_given_back n rows up = is_given_has n (written rows) ∙ ap has_payload (found n rows up)

members_back : (members : List ℕ) (rows : List Row) → IsTrue (rising rows) → filter (λ member. is_given member (written rows)) members ≡ filter (λ member. has_payload (look member rows)) members
members_back [] rows up = refl
members_back (member ∷ members) rows up = rw (is_given_back member rows up, members_back members rows up) refl

pub choice_back : (members : List ℕ) (rows : List Row) → IsTrue (rising rows) → choice_at members (written rows) ≡ at_most_one (filter (λ member. has_payload (look member rows)) members)
unfolding choice_at
choice_back members rows up = ap at_most_one (members_back members rows up)

known_fields : (known : List ℕ) (m : ℕ) (list : List Payload) (others : List WireField) → list_any (λ number. eqb number m) known ≡ true → only_known known others ≡ true → only_known known (fields_under m list ++ others) ≡ true
known_fields known m [] others is rest = rest
known_fields known m (x ∷ list) others is rest = rw (is, known_fields known m list others is rest) refl

pub known_back : (known : List ℕ) (rows : List Row) → IsTrue (list_all (λ (row : Row). list_any (λ number. eqb number row.number) known) rows) → only_known known (written rows) ≡ true
unfolding written
known_back known [] all = refl
known_back known (row ∷ rows) all =
    let parts = and_parts (list_any (λ number. eqb number row.number) known) (list_all (λ (row : Row). list_any (λ number. eqb number row.number) known) rows) all in
    known_fields known row.number (payloads row.value) (written rows) parts.0 (known_back known rows parts.1)

-- ---- each value by the rule of its type

pub written_is_read : WrittenIsRead
written_is_read n rows (Uint32 value) up is fits = uint32_back n rows value up is fits
written_is_read n rows (Uint64 value) up is fits = uint64_back n rows value up is
written_is_read n rows (Int32 value) up is fits = int32_back n rows value up is fits
written_is_read n rows (Int64 value) up is fits = int64_back n rows value up is fits
written_is_read n rows (Flag value) up is fits = flag_back n rows value up is
written_is_read n rows (ByteString value) up is fits = bytes_back n rows value up is
written_is_read n rows (Text value) up is fits = text_back n rows value up is fits
written_is_read n rows (Texts values) up is fits = texts_back n rows values up is fits
written_is_read n rows (Packed values) up is fits = packed_back n rows values up is fits
written_is_read n rows (Message message) up is fits = message_back n rows message up is
written_is_read n rows (Present message) up is fits = present_back n rows message up is
written_is_read n rows (Messages messages) up is fits = messages_back n rows messages up is
written_is_read n rows (Carried message) up is fits = carried_back n rows message up is
written_is_read n rows (ChosenUint32 value) up is fits = chosen_uint32_back n rows value up is fits
written_is_read n rows (ChosenBytes value) up is fits = chosen_bytes_back n rows value up is

pub row_by_row : RowByRow
unfolding written row_bytes
row_by_row bytes [] = sym (append-nil bytes)
row_by_row bytes (row ∷ rows) =
    row_by_row (bytes ++ row_bytes row.number row.value) rows
    ∙ append_assoc bytes (row_bytes row.number row.value) (spelling (written rows))
    ∙ ap (λ x. bytes ++ x) (sym (flat_map-append field_bytes (row_fields row.number row.value) (written rows)))
