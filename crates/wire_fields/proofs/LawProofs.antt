-- The laws of messages on the wire.
use Rattle.std.proofs.Common.{◌≡◌, ℕ, ◌^◌, ◌<◌, ◌≤◌, List, [], ◌∷◌, ◌++◌, length, Some, None, Result, Ok, Err, refl, sym, ap, subst, ◌∙◌, append_assoc, arith}
use Rattle.std.proofs.lemmas.List.Elements.{All-head, All-tail}
use Rattle.std.proofs.lemmas.List.Concat.{flat_map-cons}
use Rattle.wire_fields.specs.declared.wire.WireFault.{WireFault}
use Rattle.wire_fields.specs.declared.wire.WireFault.TheVariants.{Truncated}
use Rattle.wire_fields.specs.Fields.{Payload, Varint, Fixed64, Bytes, Fixed32, WireField, tag, PayloadSpells, FieldSpells, Spells}
use Rattle.wire_fields.specs.Field.{Begins}
use Rattle.wire_fields.specs.Reading.{varint_in, tag_at, field_at, fault_of, fault_at}
use Rattle.wire_fields.specs.Spelling.{varint, payload_bytes, field_bytes, spelling}
use Rattle.wire_fields.specs.Laws.{OneMessage, PayloadFits, CanBeWritten, SpellingSpells, NoFieldAtFault, FieldWithoutFault, RestOfMessage, NoMessageAtFault}
use Rattle.wire_fields.proofs.Steps.{IsBytes-from_All, ok_is, err_not_ok}
use Rattle.wire_fields.proofs.Shortest.{is_varint}
use Rattle.wire_fields.proofs.Messages.{has_field, begins_again, type_below}

-- no field begins where no byte is left
no_bytes : field_at [] ≡ Err Truncated
unfolding field_at tag_at varint_in
no_bytes = refl

no_field_of_nothing : (field : WireField) (rest : List ℕ) → Begins field [] rest → ⊥
no_field_of_nothing field rest begins = err_not_ok Truncated (field, rest) (sym no_bytes ∙ begins_again field [] rest begins)

-- the first of these fields, and what comes after it
first_of : (field : WireField) (fields : List WireField) (bytes : List ℕ) → (spells : Spells (field ∷ fields) bytes) → Begins field bytes spells.1
first_of field fields bytes spells = record { front = spells.0; spells = spells.2; bytes_are = spells.4 }

-- the first field of a message is the one with which its bytes begin
first_field : (field : WireField) (bytes rest : List ℕ) (all : List WireField) → Begins field bytes rest → Spells all bytes → (others : List WireField) × (all ≡ field ∷ others) × Spells others rest
first_field field bytes rest [] begins spells = absurd (no_field_of_nothing field rest (subst (λ (b : List ℕ). Begins field b rest) spells begins))
first_field field bytes rest (other ∷ others) begins spells =
    let one = begins_again field bytes rest begins in
    let two = begins_again other bytes spells.1 (first_of other others bytes spells) in
    let same = ok_is (other, spells.1) (field, rest) (sym two ∙ one) in
    (others, ap (λ (x : WireField × List ℕ). x.0 ∷ others) same, subst (λ (x : WireField × List ℕ). Spells others x.1) same spells.3)

pub one_message : OneMessage
one_message [] [] bytes p q = refl
one_message [] (other ∷ others) bytes p q = absurd (no_field_of_nothing other q.1 (subst (λ (b : List ℕ). Begins other b q.1) p (first_of other others bytes q)))
one_message (field ∷ fields) others bytes p q =
    let rest = first_field field bytes p.1 others (first_of field fields bytes p) q in
    sym (rest.1 ∙ ap (λ x. field ∷ x) (sym (one_message fields rest.0 p.1 p.3 rest.2)))

pub no_field_at_fault : NoFieldAtFault
no_field_at_fault field [] rest fault e begins = no_field_of_nothing field rest begins
no_field_at_fault field (b ∷ bytes) rest fault e begins =
    let read : fault_of (field_at (b ∷ bytes)) ≡ None = ap fault_of (begins_again field (b ∷ bytes) rest begins) in
    absurd cc

no_fault : (bytes : List ℕ) (read : Result (WireField × List ℕ) WireFault) → fault_of read ≡ None → (field : WireField) × (rest : List ℕ) × (read ≡ Ok (field, rest))
no_fault bytes (Ok x) e = (x.0, x.1, refl)
no_fault bytes (Err fault) e = absurd cc

pub field_without_fault : FieldWithoutFault
field_without_fault [] fits some e = absurd (some refl)
field_without_fault (b ∷ bytes) fits some e =
    let read = no_fault (b ∷ bytes) (field_at (b ∷ bytes)) e in
    (read.0, read.1, has_field (b ∷ bytes) read.0 read.1 (IsBytes-from_All (b ∷ bytes) fits) read.2)

at_fault : (all : List WireField) (bytes : List ℕ) (fault : WireFault) → fault_at bytes ≡ Some fault → Spells all bytes → ⊥
at_fault [] bytes fault e spells =
    let none : None ≡ fault_at bytes = ap fault_at (sym spells) in
    absurd cc
at_fault (field ∷ fields) bytes fault e spells = no_field_at_fault field bytes spells.1 fault e (first_of field fields bytes spells)

rest_after : (before all : List WireField) (front left : List ℕ) → Spells before front → Spells all (front ++ left) → (others : List WireField) × (all ≡ before ++ others) × Spells others left
rest_after [] all front left before whole = (all, refl, subst (λ (f : List ℕ). Spells all (f ++ left)) before whole)
rest_after (field ∷ fields) all front left before whole =
    let more : front ++ left ≡ before.0 ++ (before.1 ++ left) = ap (λ x. x ++ left) before.4 ∙ append_assoc before.0 before.1 left in
    let first : Begins field (front ++ left) (before.1 ++ left) = record { front = before.0; spells = before.2; bytes_are = more } in
    let others = first_field field (front ++ left) (before.1 ++ left) all first whole in
    let rest = rest_after fields others.0 before.1 left before.3 others.2 in
    (rest.0, others.1 ∙ ap (λ x. field ∷ x) rest.1, rest.2)

pub rest_of_message : RestOfMessage
rest_of_message before all bytes left read whole = rest_after before all read.front left read.spells (subst (λ (b : List ℕ). Spells all b) read.bytes_are whole)

pub no_message_at_fault : NoMessageAtFault
no_message_at_fault before all bytes left fault read e whole =
    let rest = rest_of_message before all bytes left read whole in
    at_fault rest.0 left fault e rest.2

payload_spells : (payload : Payload) → PayloadFits payload → PayloadSpells payload (payload_bytes payload)
payload_spells (Varint value) fits = is_varint value fits
payload_spells (Fixed64 value) fits = (fits, refl)
payload_spells (Bytes bytes) fits = (varint (length bytes), is_varint (length bytes) fits, refl)
payload_spells (Fixed32 value) fits = (fits, refl)

tag_fits : (field : WireField) → field.number ≤ 536870911 → tag field < 2 ^ 64
tag_fits field le = let below = type_below field.payload in omega arith

field_spells : (field : WireField) → CanBeWritten field → FieldSpells field (field_bytes field)
field_spells field fits = record {
  not_zero = fits.not_zero;
  in_range = fits.in_range;
  front = varint (tag field);
  back = payload_bytes field.payload;
  tag_is = is_varint (tag field) (tag_fits field fits.in_range);
  payload_is = payload_spells field.payload fits.payload_fits;
  bytes_are = refl;
}

pub spelling_spells : SpellingSpells
spelling_spells [] fits = refl
spelling_spells (field ∷ fields) fits =
    (field_bytes field, spelling fields, field_spells field (All-head CanBeWritten field fields fits), spelling_spells fields (All-tail CanBeWritten field fields fits), flat_map-cons field_bytes field fields)
