-- What a message of a client says of a message of a server that stands in it alone.
use Rattle.std.proofs.Common.{◌≡◌, ℕ, ◌^◌, ◌<◌, ◌≤◌, List, [], ◌∷◌, ◌++◌, length, Option, Some, None, refl, sym, subst, ap, ◌∙◌, unwrap_or, arith}
use Rattle.std.specs.Option.{option_map, IfSome}
use Rattle.std.proofs.lemmas.List.{append-nil}
use Rattle.std.proofs.lemmas.List.Elements.{All-cons, All-nil}
use Rattle.p4_types.specs.declared.calls.Call.{Call}
use Rattle.p4_types.specs.declared.calls.Call.TheVariants as calls
use Rattle.p4_types.specs.declared.calls.Method.TheVariants as methods
use Rattle.p4_types.specs.declared.messages.Entity.{Entity}
use Rattle.p4_types.specs.declared.messages.Entity.TheVariants as entities
use Rattle.p4_types.specs.declared.messages.MasterArbitrationUpdate.{MasterArbitrationUpdate}
use Rattle.p4_types.specs.declared.messages.StreamMessageRequest.TheVariants as members
use Rattle.p4_types.specs.declared.messages.TableEntry.{TableEntry}
use Rattle.list_types.specs.Options.{◌>>=◌}
use Rattle.wire_fields.specs.Fields.{WireField, Spells}
use Rattle.wire_fields.specs.Laws.{CanBeWritten}
use Rattle.wire_fields.specs.Spelling.{field_bytes, bytes_field}
use Rattle.wire_fields.proofs.LawProofs.{spelling_spells}
use Rattle.wire_messages.specs.Message.{number_at, messages_at, message_at, choice_at}
use Rattle.p4v1_read.specs.Calls.{call_by, call_of}
use Rattle.p4v1_read.specs.Entities.{table_entry_of, entity_by, entity_of}
use Rattle.p4v1_read.specs.MessageFields.{fields_of}
use Rattle.p4v1_read.specs.Nested.{read, all_at, inside_at, member_at}
use Rattle.p4v1_read.specs.Requests.{read_request_of}
use Rattle.p4v1_read.specs.Stream.{arbitration_of, stream_by, stream_of}
use Rattle.p4v1_read.proofs.FieldsSpelled.{computed}
use Rattle.p4v1_answers.specs.Borrowed.{entities_in, arbitration_in, entry_in}

-- the fields of a message that has bytes in one field
alone : (n : ℕ) (bytes : List ℕ) → 0 < n → n ≤ 536870911 → length bytes < 2 ^ 64 → fields_of (field_bytes (bytes_field n bytes)) ≡ Some (bytes_field n bytes ∷ [])
unfolding fields_of
alone n bytes some small short =
    let field = bytes_field n bytes in
    let can : CanBeWritten field = record { not_zero = some; in_range = small; payload_fits = short } in
    let spells = subst (λ (l : List ℕ). Spells (field ∷ []) l) (append-nil (field_bytes field)) (spelling_spells (field ∷ []) (All-cons CanBeWritten field [] can (All-nil CanBeWritten))) in
    computed (field ∷ []) (length (field_bytes field)) (field_bytes field) (omega arith) spells

-- ---- an entity

-- the call of a ReadRequest that asks for one entity
abbrev asked : Option (Option Entity) → Call
asked (Some entity) = calls.Read (record { device_id = 0; entities = entity ∷ [] })
asked None = calls.Unreadable methods.Read

asked_cases : (o : Option (Option Entity)) → unwrap_or (option_map calls.Read ((o >>= λ y. Some (y ∷ [])) >>= λ es. Some (record { device_id = 0; entities = es }))) (calls.Unreadable methods.Read) ≡ asked o
asked_cases (Some entity) = refl
asked_cases None = refl

asked_is : (bytes : List ℕ) → length bytes < 2 ^ 64 → call_of methods.Read (field_bytes (bytes_field 2 bytes)) ≡ asked (read entity_of bytes)
unfolding call_by read_request_of number_at all_at messages_at
asked_is bytes short =
    ap (λ (o : Option (List WireField)). unwrap_or (option_map calls.Read (o >>= read_request_of)) (calls.Unreadable methods.Read)) (alone 2 bytes (omega arith) (omega arith) short)
    ∙ asked_cases (read entity_of bytes)

only_is : {A : Type 0} (before : List A) (x y : A) → y ∷ [] ≡ before ++ x ∷ [] → y ≡ x
only_is [] x y e = cc
only_is (z ∷ []) x y e = absurd cc
only_is (z ∷ w ∷ before) x y e = absurd cc

some_asked : (o : Option (Option Entity)) (entities before : List (Option Entity)) (entity : Option Entity) → entities_in (asked o) ≡ Some entities → entities ≡ before ++ entity ∷ [] → o ≡ Some entity
some_asked (Some y) entities before entity e is =
    let same : y ∷ [] ≡ entities = cc in
    ap (λ (x : Option Entity). Some x) (only_is before entity y (same ∙ is))
some_asked None entities before entity e is = absurd cc

entity_read : (bytes : List ℕ) (entities before : List (Option Entity)) (entity : Option Entity) → length bytes < 2 ^ 64
    → entities_in (call_of methods.Read (field_bytes (bytes_field 2 bytes))) ≡ Some entities → entities ≡ before ++ entity ∷ [] → read entity_of bytes ≡ Some entity
entity_read bytes entities before entity short e is =
    some_asked (read entity_of bytes) entities before entity (sym (ap entities_in (asked_is bytes short)) ∙ e) is

-- the same of the last of the entities
pub entity_last : (bytes : List ℕ) (entities : List (Option Entity)) (last : Option (Option Entity)) (entity : Option Entity) → length bytes < 2 ^ 64
    → entities_in (call_of methods.Read (field_bytes (bytes_field 2 bytes))) ≡ Some entities → last ≡ Some entity → IfSome last (λ item. (before : List (Option Entity)) × (entities ≡ before ++ item ∷ [])) → read entity_of bytes ≡ Some entity
entity_last bytes entities (Some item) entity short e is some = entity_read bytes entities some.0 item short e some.1 ∙ is
entity_last bytes entities None entity short e is some = absurd cc

none_asked : (o : Option (Option Entity)) (entities : List (Option Entity)) → entities_in (asked o) ≡ Some entities → entities ≡ [] → o ≡ None
none_asked (Some y) entities e is =
    let same : y ∷ [] ≡ entities = cc in
    absurd (let clash : y ∷ [] ≡ [] = same ∙ is in cc)
none_asked None entities e is = refl

pub entity_empty : (bytes : List ℕ) (entities : List (Option Entity)) → length bytes < 2 ^ 64
    → entities_in (call_of methods.Read (field_bytes (bytes_field 2 bytes))) ≡ Some entities → entities ≡ [] → read entity_of bytes ≡ None
entity_empty bytes entities short e is = none_asked (read entity_of bytes) entities (sym (ap entities_in (asked_is bytes short)) ∙ e) is

not_asked : (o : Option (Option Entity)) → entities_in (asked o) ≡ None → o ≡ None
not_asked (Some y) e = absurd cc
not_asked None e = refl

pub entity_refused : (bytes : List ℕ) → length bytes < 2 ^ 64 → entities_in (call_of methods.Read (field_bytes (bytes_field 2 bytes))) ≡ None → read entity_of bytes ≡ None
entity_refused bytes short e = not_asked (read entity_of bytes) (sym (ap entities_in (asked_is bytes short)) ∙ e)

-- ---- a table entry

abbrev as_entity : Option TableEntry → Option (Option Entity)
as_entity (Some entry) = Some (Some (entities.TableEntry entry))
as_entity None = None

as_entity_cases : (o : Option TableEntry) → (option_map entities.TableEntry o >>= λ y. Some (Some y)) ≡ as_entity o
as_entity_cases (Some entry) = refl
as_entity_cases None = refl

-- an entity whose one field bears a table entry
entry_is : (bytes : List ℕ) → length bytes < 2 ^ 64 → read entity_of (field_bytes (bytes_field 2 bytes)) ≡ as_entity (read table_entry_of bytes)
unfolding entity_of entity_by choice_at member_at inside_at message_at messages_at
entry_is bytes short =
    ap (λ (o : Option (List WireField)). o >>= entity_of) (alone 2 bytes (omega arith) (omega arith) short)
    ∙ as_entity_cases (read table_entry_of bytes)

entry_again : (o : Option TableEntry) (entity : Option Entity) → as_entity o ≡ Some entity → entry_in entity ≡ o
entry_again (Some entry) entity e = let same : Some (entities.TableEntry entry) ≡ entity = cc in subst (λ (x : Option Entity). entry_in x ≡ Some entry) same refl
entry_again None entity e = absurd cc

pub entry_read : (bytes inside : List ℕ) (entity : Option Entity) → length bytes < 2 ^ 64 → inside ≡ field_bytes (bytes_field 2 bytes) → read entity_of inside ≡ Some entity → read table_entry_of bytes ≡ entry_in entity
entry_read bytes inside entity short is e = sym (entry_again (read table_entry_of bytes) entity (sym (ap (read entity_of) is ∙ entry_is bytes short) ∙ e))

no_entry : (o : Option TableEntry) → as_entity o ≡ None → o ≡ None
no_entry (Some entry) e = absurd cc
no_entry None e = refl

pub entry_refused : (bytes inside : List ℕ) → length bytes < 2 ^ 64 → inside ≡ field_bytes (bytes_field 2 bytes) → read entity_of inside ≡ None → read table_entry_of bytes ≡ None
entry_refused bytes inside short is e = no_entry (read table_entry_of bytes) (sym (ap (read entity_of) is ∙ entry_is bytes short) ∙ e)

-- ---- an arbitration

abbrev as_call : Option MasterArbitrationUpdate → Call
as_call (Some update) = calls.Stream (Some (members.Arbitration update))
as_call None = calls.Unreadable methods.StreamChannel

as_call_cases : (o : Option MasterArbitrationUpdate) → unwrap_or (option_map calls.Stream (option_map members.Arbitration o >>= λ y. Some (Some y))) (calls.Unreadable methods.StreamChannel) ≡ as_call o
as_call_cases (Some update) = refl
as_call_cases None = refl

-- a StreamMessageRequest whose one field bears an arbitration
arbitration_is : (bytes : List ℕ) → length bytes < 2 ^ 64 → call_of methods.StreamChannel (field_bytes (bytes_field 1 bytes)) ≡ as_call (read arbitration_of bytes)
unfolding call_by stream_of stream_by choice_at member_at inside_at message_at messages_at
arbitration_is bytes short =
    ap (λ (o : Option (List WireField)). unwrap_or (option_map calls.Stream (o >>= stream_of)) (calls.Unreadable methods.StreamChannel)) (alone 1 bytes (omega arith) (omega arith) short)
    ∙ as_call_cases (read arbitration_of bytes)

update_again : (o : Option MasterArbitrationUpdate) → arbitration_in (as_call o) ≡ o
update_again (Some update) = refl
update_again None = refl

pub arbitration_read : (bytes : List ℕ) → length bytes < 2 ^ 64 → read arbitration_of bytes ≡ arbitration_in (call_of methods.StreamChannel (field_bytes (bytes_field 1 bytes)))
arbitration_read bytes short = sym (ap arbitration_in (arbitration_is bytes short) ∙ update_again (read arbitration_of bytes))
