-- Messages in the fields of a message are read back.
use Rattle.std.proofs.Common.{◌≡◌, ℕ, ◌^◌, ◌<◌, Bool, true, false, cond, eqb, IsTrue, All, List, [], ◌∷◌, length, map, Option, Some, None, refl, ap, subst, ◌∙◌, arith, lit<}
use Rattle.std.specs.Prelude.{IfSome, is_some, unwrap_or}
use Rattle.std.specs.List.{filter}
use Rattle.std.specs.Option.{option_map}
use Rattle.std.proofs.lemmas.List.Elements.{All-head, All-tail, All-nil, All-cons}
use Rattle.wire_fields.specs.Fields.{Payload, Bytes, WireField}
use Rattle.wire_fields.specs.Laws.{PayloadFits, CanBeWritten}
use Rattle.wire_fields.specs.Spelling.{spelling}
use Rattle.wire_fields.proofs.LawProofs.{spelling_spells}
use Rattle.list_types.specs.Options.{◌>>=◌}
use Rattle.wire_messages.specs.Message.{each, given}
use Rattle.wire_messages.specs.Written.{Value, Message, Present, Messages, payloads, unless_default, where_given, sent, Row, written, rising, RowsInRange, look}
use Rattle.wire_messages.proofs.CanWrite.{rows_can_be_written}
use Rattle.wire_messages.proofs.ReadBack.{found, message_back, present_back, messages_back}
use Rattle.p4v1_read.specs.MessageFields.{fields_of}
use Rattle.p4v1_read.specs.Nested.{read, optional, one_at, all_at, inside_at, member_at, opaque_at}
use Rattle.p4v1_read.proofs.FieldsSpelled.{computed}
use Rattle.p4v1_wire.specs.ReadBack.{IsReadBack, where_fields, counted, itself}
use Rattle.p4v1_wire.specs.Rows.{fields_by}

-- the canonical bytes of rows in range are read as their fields
pub spelled_fields : (rows : List Row) → IsTrue (rising rows) → RowsInRange rows → length (spelling (written rows)) < 2 ^ 64 → fields_of (spelling (written rows)) ≡ Some (written rows)
unfolding fields_of
spelled_fields rows up fits short =
    computed (written rows) (length (spelling (written rows))) (spelling (written rows)) (omega arith) (spelling_spells (written rows) (rows_can_be_written rows up fits short))

-- a message is read as what its fields say
pub read_from : {B : Type 0} (meaning : List WireField → Option B) (rows : List Row) (y : B) → IsTrue (rising rows) → RowsInRange rows → length (spelling (written rows)) < 2 ^ 64 → meaning (written rows) ≡ Some y → read meaning (spelling (written rows)) ≡ Some y
read_from meaning rows y up fits short e = ap (λ (o : Option (List WireField)). o >>= meaning) (spelled_fields rows up fits short) ∙ e

-- ---- the payloads under a number fit, where the whole can be written

kept_fits : (n : ℕ) (test : Bool) (field : WireField) (kept : List WireField) → PayloadFits field.payload → All PayloadFits (map (λ (field : WireField). field.payload) kept) → All PayloadFits (map (λ (field : WireField). field.payload) (cond test (field ∷ kept) kept))
kept_fits n true field kept fits others = All-cons PayloadFits field.payload (map (λ (field : WireField). field.payload) kept) fits others
kept_fits n false field kept fits others = others

given_fit : (n : ℕ) (fields : List WireField) → All CanBeWritten fields → All PayloadFits (given n fields)
given_fit n [] whole = All-nil PayloadFits
given_fit n (field ∷ fields) whole =
    let one = All-head CanBeWritten field fields whole in
    kept_fits n (eqb field.number n) field (filter (λ (field : WireField). eqb field.number n) fields) one.payload_fits (given_fit n fields (All-tail CanBeWritten field fields whole))

fit_at : (n : ℕ) (rows : List Row) (value : Value) → IsTrue (rising rows) → look n rows ≡ payloads value → All CanBeWritten (written rows) → All PayloadFits (payloads value)
fit_at n rows value up is whole = subst (λ (list : List Payload). All PayloadFits list) (found n rows up ∙ is) (given_fit n (written rows) whole)

short_present : (fields : List WireField) → All PayloadFits (where_given (Some fields)) → length (spelling fields) < 2 ^ 64
short_present fields fits = All-head PayloadFits (Bytes (spelling fields)) [] fits

short_message : (fields : List WireField) → All PayloadFits (unless_default (Some fields)) → length (spelling fields) < 2 ^ 64
short_message [] fits = lit< tt
short_message (field ∷ fields) fits = All-head PayloadFits (Bytes (spelling (field ∷ fields))) [] fits

-- ---- optional messages

one_read : {B : Type 0} (meaning : List WireField → Option B) (fields : List WireField) (y : B) → read meaning (spelling fields) ≡ Some y → (Some (sent (unless_default (Some fields))) >>= optional (read meaning)) ≡ Some (where_fields fields y)
one_read meaning [] y e = refl
one_read meaning (field ∷ fields) y e = ap (λ (o : Option _). o >>= λ y. Some (Some y)) e

pub optional_back : {A B : Type 0} (meaning : List WireField → Option B) (n : ℕ) (rows : List Row) (item_rows : A → List Row) (InRange : A → Type 0) (meant : A → B) (message : Option A)
    → IsTrue (rising rows) → look n rows ≡ payloads (Message (option_map (fields_by item_rows) message)) → All CanBeWritten (written rows) → IfSome message InRange → IsReadBack meaning item_rows InRange meant
    → one_at meaning n (written rows) ≡ Some (counted item_rows meant message)
unfolding one_at
optional_back meaning n rows item_rows InRange meant None up is whole fits back =
    ap (λ (o : Option (Option (List ℕ))). o >>= optional (read meaning)) (message_back n rows None up is)
optional_back meaning n rows item_rows InRange meant (Some message) up is whole fits back =
    let fields = fields_by item_rows message in
    let short = short_message fields (fit_at n rows (Message (Some fields)) up is whole) in
    ap (λ (o : Option (Option (List ℕ))). o >>= optional (read meaning)) (message_back n rows (Some fields) up is)
    ∙ one_read meaning fields (meant message) (back message fits short)

-- ---- messages that are present

present_read : {B : Type 0} (meaning : List WireField → Option B) (fields : List WireField) (y : B) → read meaning (spelling fields) ≡ Some y → (Some (Some (spelling fields)) >>= optional (read meaning)) ≡ Some (Some y)
present_read meaning fields y e = ap (λ (o : Option _). o >>= λ y. Some (Some y)) e

pub given_back : {A B : Type 0} (meaning : List WireField → Option B) (n : ℕ) (rows : List Row) (item_rows : A → List Row) (InRange : A → Type 0) (meant : A → B) (message : Option A)
    → IsTrue (rising rows) → look n rows ≡ payloads (Present (option_map (fields_by item_rows) message)) → All CanBeWritten (written rows) → IfSome message InRange → IsReadBack meaning item_rows InRange meant
    → one_at meaning n (written rows) ≡ Some (option_map meant message)
unfolding one_at
given_back meaning n rows item_rows InRange meant None up is whole fits back =
    ap (λ (o : Option (Option (List ℕ))). o >>= optional (read meaning)) (present_back n rows None up is)
given_back meaning n rows item_rows InRange meant (Some message) up is whole fits back =
    let fields = fields_by item_rows message in
    let short = short_present fields (fit_at n rows (Present (Some fields)) up is whole) in
    ap (λ (o : Option (Option (List ℕ))). o >>= optional (read meaning)) (present_back n rows (Some fields) up is)
    ∙ present_read meaning fields (meant message) (back message fits short)

pub member_back : {A B : Type 0} (meaning : List WireField → Option B) (n : ℕ) (rows : List Row) (item_rows : A → List Row) (InRange : A → Type 0) (meant : A → B) (message : A)
    → IsTrue (rising rows) → look n rows ≡ payloads (Present (Some (fields_by item_rows message))) → All CanBeWritten (written rows) → InRange message → IsReadBack meaning item_rows InRange meant
    → member_at meaning n (written rows) ≡ Some (meant message)
unfolding member_at inside_at
member_back meaning n rows item_rows InRange meant message up is whole fits back =
    let fields = fields_by item_rows message in
    let short = short_present fields (fit_at n rows (Present (Some fields)) up is whole) in
    ap (λ (o : Option (Option (List ℕ))). (o >>= λ given. given >>= fields_of) >>= meaning) (present_back n rows (Some fields) up is)
    ∙ back message fits short

-- an empty message where one is given
pub empty_back : (n : ℕ) (rows : List Row) (is_given : Bool) → IsTrue (rising rows) → look n rows ≡ payloads (Present (cond is_given (Some []) None)) → opaque_at n (written rows) ≡ Some is_given
unfolding opaque_at
empty_back n rows true up is = ap (λ (o : Option (Option (List ℕ))). option_map is_some o) (present_back n rows (Some []) up is)
empty_back n rows false up is = ap (λ (o : Option (Option (List ℕ))). option_map is_some o) (present_back n rows None up is)

-- ---- repeated messages

items_back : {A B : Type 0} (meaning : List WireField → Option B) (item_rows : A → List Row) (InRange : A → Type 0) (meant : A → B) (items : List A)
    → All PayloadFits (map (λ fields. Bytes (spelling fields)) (map (fields_by item_rows) items)) → All InRange items → IsReadBack meaning item_rows InRange meant
    → each (read meaning) (map spelling (map (fields_by item_rows) items)) ≡ Some (map meant items)
items_back meaning item_rows InRange meant [] short fits back = refl
items_back meaning item_rows InRange meant (item ∷ items) short fits back =
    let others : List Payload = map (λ fields. Bytes (spelling fields)) (map (fields_by item_rows) items) in
    let one = back item (All-head InRange item items fits) (All-head PayloadFits (Bytes (spelling (fields_by item_rows item))) others short) in
    let rest = items_back meaning item_rows InRange meant items (All-tail PayloadFits (Bytes (spelling (fields_by item_rows item))) others short) (All-tail InRange item items fits) back in
    rw (one, rest) refl

pub all_back : {A B : Type 0} (meaning : List WireField → Option B) (n : ℕ) (rows : List Row) (item_rows : A → List Row) (InRange : A → Type 0) (meant : A → B) (items : List A)
    → IsTrue (rising rows) → look n rows ≡ payloads (Messages (map (fields_by item_rows) items)) → All CanBeWritten (written rows) → All InRange items → IsReadBack meaning item_rows InRange meant
    → all_at meaning n (written rows) ≡ Some (map meant items)
unfolding all_at
all_back meaning n rows item_rows InRange meant items up is whole fits back =
    let messages = map (fields_by item_rows) items in
    ap (λ (o : Option (List (List ℕ))). o >>= each (read meaning)) (messages_back n rows messages up is)
    ∙ items_back meaning item_rows InRange meant items (fit_at n rows (Messages messages) up is whole) fits back

map_itself : {A : Type 0} (items : List A) → map itself items ≡ items
map_itself [] = refl
map_itself (item ∷ items) = ap (λ l. item ∷ l) (map_itself items)

-- the same where each item is read as itself
pub all_same : {A : Type 0} (meaning : List WireField → Option A) (n : ℕ) (rows : List Row) (item_rows : A → List Row) (InRange : A → Type 0) (items : List A)
    → IsTrue (rising rows) → look n rows ≡ payloads (Messages (map (fields_by item_rows) items)) → All CanBeWritten (written rows) → All InRange items → IsReadBack meaning item_rows InRange itself
    → all_at meaning n (written rows) ≡ Some items
all_same meaning n rows item_rows InRange items up is whole fits back = all_back meaning n rows item_rows InRange itself items up is whole fits back ∙ ap (λ l. Some l) (map_itself items)

option_itself : {A : Type 0} (message : Option A) → option_map itself message ≡ message
option_itself None = refl
option_itself (Some message) = refl

pub given_same : {A : Type 0} (meaning : List WireField → Option A) (n : ℕ) (rows : List Row) (item_rows : A → List Row) (InRange : A → Type 0) (message : Option A)
    → IsTrue (rising rows) → look n rows ≡ payloads (Present (option_map (fields_by item_rows) message)) → All CanBeWritten (written rows) → IfSome message InRange → IsReadBack meaning item_rows InRange itself
    → one_at meaning n (written rows) ≡ Some message
given_same meaning n rows item_rows InRange message up is whole fits back = given_back meaning n rows item_rows InRange itself message up is whole fits back ∙ ap (λ o. Some o) (option_itself message)

-- a member of a choice, of which it is known what it is read as
pub member_is : {B : Type 0} (meaning : List WireField → Option B) (n : ℕ) (rows : List Row) (fields : List WireField) (y : B)
    → IsTrue (rising rows) → look n rows ≡ payloads (Present (Some fields)) → read meaning (spelling fields) ≡ Some y → member_at meaning n (written rows) ≡ Some y
unfolding member_at inside_at
member_is meaning n rows fields y up is e =
    ap (λ (o : Option (Option (List ℕ))). (o >>= λ given. given >>= fields_of) >>= meaning) (present_back n rows (Some fields) up is) ∙ e

-- how long the member of a choice is
pub short_member : (n : ℕ) (rows : List Row) (fields : List WireField) → IsTrue (rising rows) → look n rows ≡ payloads (Present (Some fields)) → All CanBeWritten (written rows) → length (spelling fields) < 2 ^ 64
short_member n rows fields up is whole = short_present fields (fit_at n rows (Present (Some fields)) up is whole)

-- what is left out, since its fields are all defaults, is what stands for what is not given
pub or_default : {A : Type 0} (meaning : List WireField → Option A) (fields : List WireField) (message default : A) → meaning fields ≡ Some message → meaning [] ≡ Some default → unwrap_or (where_fields fields message) default ≡ message
or_default meaning [] message default e none = cc
or_default meaning (field ∷ fields) message default e none = refl

-- how long an optional message is
pub short_inside : (n : ℕ) (rows : List Row) (fields : List WireField) → IsTrue (rising rows) → look n rows ≡ payloads (Message (Some fields)) → All CanBeWritten (written rows) → length (spelling fields) < 2 ^ 64
short_inside n rows fields up is whole = short_message fields (fit_at n rows (Message (Some fields)) up is whole)
