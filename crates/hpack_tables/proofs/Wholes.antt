-- What a block is read as is what its bytes are, and the other way round.
use Rattle.std.proofs.Common.{◌≡◌, ◌≢◌, ℕ, zero, suc, ◌-◌, ◌/◌, ◌^◌, ◌<◌, ◌≤◌, ◌==◌, nat_lt, nat_le, true, false, cond, List, [], ◌∷◌, ◌++◌, length, slice_index, Some, Result, Ok, refl, sym, ap, ◌∙◌, subst, append_assoc, arith, ◌⊎◌, inl, inr}
use Rattle.std.specs.Prelude.{sum_by}
use Rattle.std.proofs.lemmas.Bool.{eqb-true, eqb-false, ltb-false, leb-true, leb-false, le-ltb, eq-eqb, ne_eqb, lt-leb, le-leb}
use Rattle.std.proofs.lemmas.List.{length-append, nil_from_length}
use Rattle.std.proofs.lemmas.List.Sums.{sum_by-cons}
use Rattle.hpack_tables.specs.declared.header.Header.{Header}
use Rattle.hpack_tables.specs.declared.fault.HpackFault.{HpackFault}
use Rattle.hpack_tables.specs.declared.fault.HpackFault.TheVariants.{BadIndex, TableSize, ListTooLong}
use Rattle.list_types.specs.Results.{◌>>=◌, unless, found}
use Rattle.hpack_tables.specs.Integers.{integer_at}
use Rattle.hpack_tables.specs.Strings.{string_at}
use Rattle.hpack_tables.specs.Tables.{header, entry_size, Table, inserted, resized, entry_at}
use Rattle.hpack_tables.specs.Blocks.{indexed_at, name_at, literal_at, kept, added, field_at, fields_in, is_update, update_at, updates_in, block_at}
use Rattle.hpack_tables.specs.Headers.{IsInteger, IsString, IsName, IsLiteral, IsIndexed, IsField, AreFields, AreUpdates, IsBlock}
use Rattle.hpack_tables.specs.Laws.{OneBlock}
use Rattle.hpack_tables.proofs.Parts.{AreBytes, bytes_after, bind_ok, unless_ok, chosen, ok_is, found_ok, HasInteger, has_integer, integer_again, form_is, first_small, HasString, has_string, string_again}

-- ---- names

record HasName (prefix form : ℕ) (table : Table) (name bytes rest : List ℕ) : Type 0 where
  pub front : List ℕ
  pub is : IsName prefix form table name front
  pub bytes_are : bytes ≡ front ++ rest

new_name : (prefix form index : ℕ) (table : Table) (name bytes after rest : List ℕ) → index ≡ 0 → HasInteger prefix form index bytes after → HasString name after rest → HasName prefix form table name bytes rest
new_name prefix form index table name bytes after rest none has string = record {
  front = has.front ++ string.front;
  is = record { index = index; front = has.front; back = string.front; index_is = has.is; name_is = inl (none, string.is); bytes_are = refl };
  bytes_are = has.bytes_are ∙ ap (λ (x : List ℕ). has.front ++ x) string.bytes_are ∙ sym (append_assoc has.front string.front rest);
}

old_name : (prefix form index : ℕ) (table : Table) (entry : Header) (bytes after : List ℕ) → index ≢ 0 → HasInteger prefix form index bytes after → entry_at table index ≡ Some entry → HasName prefix form table entry.name bytes after
old_name prefix form index table entry bytes after some has e = record {
  front = has.front ++ [];
  is = record { index = index; front = has.front; back = []; index_is = has.is; name_is = inr (omega (arith, some), (entry, e, refl, refl)); bytes_are = refl };
  bytes_are = has.bytes_are ∙ sym (append_assoc has.front [] after);
}

has_name : (prefix : ℕ) (table : Table) (bytes name rest : List ℕ) → AreBytes bytes → name_at prefix table bytes ≡ Ok (name, rest) → HasName prefix (slice_index bytes 0 / 2 ^ prefix) table name bytes rest
unfolding name_at
has_name prefix table bytes name rest small e =
    let read = bind_ok (integer_at prefix BadIndex bytes) (λ index. cond (index.0 == 0) (string_at index.1) (found BadIndex (entry_at table index.0) >>= λ entry. Ok (entry.name, index.1))) (name, rest) e in
    let index = read.0.0 in
    let after = read.0.1 in
    let has = has_integer prefix BadIndex bytes index after small read.1 in
    elim (chosen (index == 0) (string_at after) (found BadIndex (entry_at table index) >>= λ entry. Ok (entry.name, after)) (Ok (name, rest)) read.2) [
      | inl h ↦ new_name prefix (slice_index bytes 0 / 2 ^ prefix) index table name bytes after rest (eqb-true index 0 h.0) has (has_string after name rest (bytes_after has.front after (subst AreBytes has.bytes_are small)) h.1)
      | inr h ↦
          let entry = bind_ok (found BadIndex (entry_at table index)) (λ entry. Ok (entry.name, after)) (name, rest) h.1 in
          subst (λ (x : List ℕ × List ℕ). HasName prefix (slice_index bytes 0 / 2 ^ prefix) table x.0 bytes x.1) (ok_is (entry.0.name, after) (name, rest) entry.2)
          (old_name prefix (slice_index bytes 0 / 2 ^ prefix) index table entry.0 bytes after (eqb-false index 0 h.0) has (found_ok BadIndex (entry_at table index) entry.0 entry.1))
    ]

after_index : (index : ℕ) (table : Table) (name back rest : List ℕ)
    → ((index ≡ 0) × IsString name back) ⊎ ((0 < index) × ((entry : Header) × (entry_at table index ≡ Some entry) × (entry.name ≡ name) × (back ≡ [])))
    → cond (index == 0) (string_at (back ++ rest)) (found BadIndex (entry_at table index) >>= λ entry. Ok (entry.name, back ++ rest)) ≡ Ok (name, rest)
after_index index table name back rest is =
    elim is [
      | inl h ↦ rw (eq-eqb index 0 h.0) (string_again name back rest h.1)
      | inr h ↦ rw (ne_eqb index 0 (λ e. omega (arith, h.0)), h.1.1, h.1.2, h.1.3) refl
    ]

name_again : (prefix form : ℕ) (table : Table) (name front rest : List ℕ) → IsName prefix form table name front → name_at prefix table (front ++ rest) ≡ Ok (name, rest)
unfolding name_at
name_again prefix form table name front rest is =
    let whole : front ++ rest ≡ is.front ++ (is.back ++ rest) = ap (λ (x : List ℕ). x ++ rest) is.bytes_are ∙ append_assoc is.front is.back rest in
    rw (whole, integer_again prefix form is.index BadIndex is.front (is.back ++ rest) is.index_is) (after_index is.index table name is.back rest is.name_is)

-- ---- literals

record HasLiteral (prefix form : ℕ) (table : Table) (entry : Header) (bytes rest : List ℕ) : Type 0 where
  pub front : List ℕ
  pub is : IsLiteral prefix form table entry front
  pub bytes_are : bytes ≡ front ++ rest

literal_parts : (prefix form : ℕ) (table : Table) (name value bytes after rest : List ℕ) → HasName prefix form table name bytes after → HasString value after rest → HasLiteral prefix form table (header name value) bytes rest
literal_parts prefix form table name value bytes after rest has string = record {
  front = has.front ++ string.front;
  is = record { front = has.front; back = string.front; name_is = has.is; value_is = string.is; bytes_are = refl };
  bytes_are = has.bytes_are ∙ ap (λ (x : List ℕ). has.front ++ x) string.bytes_are ∙ sym (append_assoc has.front string.front rest);
}

has_literal : (prefix : ℕ) (table : Table) (bytes : List ℕ) (entry : Header) (rest : List ℕ) → AreBytes bytes → literal_at prefix table bytes ≡ Ok (entry, rest) → HasLiteral prefix (slice_index bytes 0 / 2 ^ prefix) table entry bytes rest
unfolding literal_at
has_literal prefix table bytes entry rest small e =
    let read = bind_ok (name_at prefix table bytes) (λ name. string_at name.1 >>= λ value. Ok (header name.0 value.0, value.1)) (entry, rest) e in
    let name = read.0.0 in
    let after = read.0.1 in
    let has = has_name prefix table bytes name after small read.1 in
    let value = bind_ok (string_at after) (λ value. Ok (header name value.0, value.1)) (entry, rest) read.2 in
    let string = has_string after value.0.0 value.0.1 (bytes_after has.front after (subst AreBytes has.bytes_are small)) value.1 in
    subst (λ (x : Header × List ℕ). HasLiteral prefix (slice_index bytes 0 / 2 ^ prefix) table x.0 bytes x.1) (ok_is (header name value.0.0, value.0.1) (entry, rest) value.2)
    (literal_parts prefix (slice_index bytes 0 / 2 ^ prefix) table name value.0.0 bytes after value.0.1 has string)

same_header : (entry : Header) → header entry.name entry.value ≡ entry
same_header entry = refl

literal_again : (prefix form : ℕ) (table : Table) (entry : Header) (front rest : List ℕ) → IsLiteral prefix form table entry front → literal_at prefix table (front ++ rest) ≡ Ok (entry, rest)
unfolding literal_at
literal_again prefix form table entry front rest is =
    let whole : front ++ rest ≡ is.front ++ (is.back ++ rest) = ap (λ (x : List ℕ). x ++ rest) is.bytes_are ∙ append_assoc is.front is.back rest in
    rw (whole, name_again prefix form table entry.name is.front (is.back ++ rest) is.name_is, string_again entry.value is.back rest is.value_is) refl

literal_form : (prefix form : ℕ) (table : Table) (entry : Header) (front rest : List ℕ) → IsLiteral prefix form table entry front → slice_index (front ++ rest) 0 / 2 ^ prefix ≡ form
literal_form prefix form table entry front rest is =
    let name = is.name_is in
    let whole : front ++ rest ≡ name.front ++ (name.back ++ (is.back ++ rest)) = ap (λ (x : List ℕ). x ++ rest) (is.bytes_are ∙ ap (λ (x : List ℕ). x ++ is.back) name.bytes_are) ∙ append_assoc (name.front ++ name.back) is.back rest ∙ append_assoc name.front name.back (is.back ++ rest) in
    ap (λ (x : List ℕ). slice_index x 0 / 2 ^ prefix) whole ∙ form_is prefix form name.index name.front (name.back ++ (is.back ++ rest)) name.index_is

-- ---- headers

record HasIndexed (table : Table) (entry : Header) (bytes rest : List ℕ) : Type 0 where
  pub front : List ℕ
  pub is : IsIndexed table entry front
  pub bytes_are : bytes ≡ front ++ rest

has_indexed : (table : Table) (bytes : List ℕ) (entry : Header) (rest : List ℕ) → AreBytes bytes → slice_index bytes 0 / 2 ^ 7 ≡ 1 → indexed_at table bytes ≡ Ok (entry, rest) → HasIndexed table entry bytes rest
unfolding indexed_at
has_indexed table bytes entry rest small form e =
    let read = bind_ok (integer_at 7 BadIndex bytes) (λ index. found BadIndex (entry_at table index.0) >>= λ entry. Ok (entry, index.1)) (entry, rest) e in
    let index = read.0.0 in
    let after = read.0.1 in
    let has = has_integer 7 BadIndex bytes index after small read.1 in
    let given = bind_ok (found BadIndex (entry_at table index)) (λ entry. Ok (entry, after)) (entry, rest) read.2 in
    subst (λ (x : Header × List ℕ). HasIndexed table x.0 bytes x.1) (ok_is (given.0, after) (entry, rest) given.2)
    (record {
      front = has.front;
      is = (index, subst (λ (f : ℕ). IsInteger 7 f index has.front) form has.is, found_ok BadIndex (entry_at table index) given.0 given.1);
      bytes_are = has.bytes_are;
    })

indexed_again : (table : Table) (entry : Header) (front rest : List ℕ) → IsIndexed table entry front → indexed_at table (front ++ rest) ≡ Ok (entry, rest)
unfolding indexed_at
indexed_again table entry front rest is = rw (integer_again 7 1 is.0 BadIndex front rest is.1, is.2) refl

record HasField (table : Table) (entry : Header) (next : Table) (bytes rest : List ℕ) : Type 0 where
  pub front : List ℕ
  pub is : IsField table entry next front
  pub bytes_are : bytes ≡ front ++ rest

abbrev read_field : Header → Table → List ℕ → Header × Table × List ℕ
read_field entry next rest = (entry, next, rest)

abbrev ok_field : Header → Table → List ℕ → Result (Header × Table × List ℕ) HpackFault
ok_field entry next rest = Ok (entry, next, rest)

made_field : (table : Table) (entry : Header) (next : Table) (rest bytes : List ℕ) (made : Header) (after : Table) (left : List ℕ) → ok_field made after left ≡ ok_field entry next rest → HasField table made after bytes left → HasField table entry next bytes rest
made_field table entry next rest bytes made after left e has = subst (λ (x : Header × Table × List ℕ). HasField table x.0 x.1 bytes x.2) (ok_is (read_field made after left) (read_field entry next rest) e) has

from_indexed : (table : Table) (bytes : List ℕ) (entry : Header) (next : Table) (rest : List ℕ) → AreBytes bytes → slice_index bytes 0 / 2 ^ 7 ≡ 1 → kept table (indexed_at table bytes) ≡ Ok (entry, next, rest) → HasField table entry next bytes rest
from_indexed table bytes entry next rest small form e =
    let read = bind_ok (indexed_at table bytes) (λ x. Ok (x.0, table, x.1)) (entry, next, rest) e in
    let has = has_indexed table bytes read.0.0 read.0.1 small form read.1 in
    made_field table entry next rest bytes read.0.0 table read.0.1 read.2 (record { front = has.front; is = inl (has.is, refl); bytes_are = has.bytes_are })

from_added : (table : Table) (bytes : List ℕ) (entry : Header) (next : Table) (rest : List ℕ) → AreBytes bytes → slice_index bytes 0 / 2 ^ 6 ≡ 1 → added table (literal_at 6 table bytes) ≡ Ok (entry, next, rest) → HasField table entry next bytes rest
from_added table bytes entry next rest small form e =
    let read = bind_ok (literal_at 6 table bytes) (λ x. Ok (x.0, inserted x.0 table, x.1)) (entry, next, rest) e in
    let has = has_literal 6 table bytes read.0.0 read.0.1 small read.1 in
    made_field table entry next rest bytes read.0.0 (inserted read.0.0 table) read.0.1 read.2 (record { front = has.front; is = inr (inl (subst (λ (f : ℕ). IsLiteral 6 f table read.0.0 has.front) form has.is, refl)); bytes_are = has.bytes_are })

either_form : (form : ℕ) (table : Table) (entry : Header) (bytes : List ℕ) → form < 2 → IsLiteral 4 form table entry bytes → IsLiteral 4 0 table entry bytes ⊎ IsLiteral 4 1 table entry bytes
either_form zero table entry bytes lt is = inl is
either_form (suc zero) table entry bytes lt is = inr is
either_form (suc (suc form)) table entry bytes lt is = absurd (omega arith)

from_kept : (table : Table) (bytes : List ℕ) (entry : Header) (next : Table) (rest : List ℕ) → AreBytes bytes → slice_index bytes 0 / 2 ^ 4 < 2 → kept table (literal_at 4 table bytes) ≡ Ok (entry, next, rest) → HasField table entry next bytes rest
from_kept table bytes entry next rest small form e =
    let read = bind_ok (literal_at 4 table bytes) (λ x. Ok (x.0, table, x.1)) (entry, next, rest) e in
    let has = has_literal 4 table bytes read.0.0 read.0.1 small read.1 in
    made_field table entry next rest bytes read.0.0 table read.0.1 read.2 (record { front = has.front; is = inr (inr (either_form (slice_index bytes 0 / 2 ^ 4) table read.0.0 has.front form has.is, refl)); bytes_are = has.bytes_are })

has_field : (table : Table) (bytes : List ℕ) (entry : Header) (next : Table) (rest : List ℕ) → AreBytes bytes → field_at table bytes ≡ Ok (entry, next, rest) → HasField table entry next bytes rest
unfolding field_at
has_field table bytes entry next rest small e =
    let first = first_small bytes small in
    let b = slice_index bytes 0 in
    elim (chosen (nat_le 128 b) (kept table (indexed_at table bytes)) (cond (nat_le 64 b) (added table (literal_at 6 table bytes)) (unless (nat_le 32 b) TableSize (kept table (literal_at 4 table bytes)))) (Ok (entry, next, rest)) e) [
      | inl h ↦ from_indexed table bytes entry next rest small (omega (arith, leb-true 128 b h.0)) h.1
      | inr h ↦ elim (chosen (nat_le 64 b) (added table (literal_at 6 table bytes)) (unless (nat_le 32 b) TableSize (kept table (literal_at 4 table bytes))) (Ok (entry, next, rest)) h.1) [
        | inl i ↦ from_added table bytes entry next rest small (omega (arith, leb-false 128 b h.0, leb-true 64 b i.0)) i.1
        | inr i ↦
            let g = unless_ok (nat_le 32 b) TableSize (kept table (literal_at 4 table bytes)) (entry, next, rest) i.1 in
            from_kept table bytes entry next rest small (omega (arith, leb-false 32 b g.0)) g.1
      ]
    ]

kept_again : (form : ℕ) (table : Table) (entry : Header) (front rest : List ℕ) → form < 2 → IsLiteral 4 form table entry front → field_at table (front ++ rest) ≡ Ok (entry, table, rest)
unfolding field_at
kept_again form table entry front rest lt is =
    let first = literal_form 4 form table entry front rest is in
    rw (lt-leb 128 (slice_index (front ++ rest) 0) (omega (arith, first)), lt-leb 64 (slice_index (front ++ rest) 0) (omega (arith, first)), lt-leb 32 (slice_index (front ++ rest) 0) (omega (arith, first)), literal_again 4 form table entry front rest is) refl

added_again : (table : Table) (entry : Header) (front rest : List ℕ) → IsLiteral 6 1 table entry front → field_at table (front ++ rest) ≡ Ok (entry, inserted entry table, rest)
unfolding field_at
added_again table entry front rest is =
    let first = literal_form 6 1 table entry front rest is in
    rw (lt-leb 128 (slice_index (front ++ rest) 0) (omega (arith, first)), le-leb 64 (slice_index (front ++ rest) 0) (omega (arith, first)), literal_again 6 1 table entry front rest is) refl

index_again : (table : Table) (entry : Header) (front rest : List ℕ) → IsIndexed table entry front → field_at table (front ++ rest) ≡ Ok (entry, table, rest)
unfolding field_at
index_again table entry front rest is =
    let first = form_is 7 1 is.0 front rest is.1 in
    rw (le-leb 128 (slice_index (front ++ rest) 0) (omega (arith, first)), indexed_again table entry front rest is) refl

field_again : (table : Table) (entry : Header) (next : Table) (front rest : List ℕ) → IsField table entry next front → field_at table (front ++ rest) ≡ Ok (entry, next, rest)
field_again table entry next front rest is =
    elim is [
      | inl h ↦ rw h.1 (index_again table entry front rest h.0)
      | inr h ↦ elim h [
        | inl i ↦ rw i.1 (added_again table entry front rest i.0)
        | inr i ↦ rw i.1 (elim i.0 [
          | inl j ↦ kept_again 0 table entry front rest (omega arith) j
          | inr j ↦ kept_again 1 table entry front rest (omega arith) j
        ])
      ]
    ]

-- ---- a header takes a byte at least

integer_long : (prefix form value : ℕ) (bytes : List ℕ) → IsInteger prefix form value bytes → 0 < length bytes
integer_long prefix form value [] is = absurd is
integer_long prefix form value (byte ∷ bytes) is = omega arith

literal_long : (prefix form : ℕ) (table : Table) (entry : Header) (bytes : List ℕ) → IsLiteral prefix form table entry bytes → 0 < length bytes
literal_long prefix form table entry bytes is =
    let name = is.name_is in
    let some = integer_long prefix form name.index name.front name.index_is in
    omega (arith, some, ap length is.bytes_are, length-append is.front is.back, ap length name.bytes_are, length-append name.front name.back)

field_long : (table : Table) (entry : Header) (next : Table) (bytes : List ℕ) → IsField table entry next bytes → 0 < length bytes
field_long table entry next bytes is =
    elim is [
      | inl h ↦ integer_long 7 1 h.0.0 bytes h.0.1
      | inr h ↦ elim h [
        | inl i ↦ literal_long 6 1 table entry bytes i.0
        | inr i ↦ elim i.0 [
          | inl j ↦ literal_long 4 0 table entry bytes j
          | inr j ↦ literal_long 4 1 table entry bytes j
        ]
      ]
    ]

-- a header does not begin as an update does
field_first : (table : Table) (entry : Header) (next : Table) (front rest : List ℕ) → IsField table entry next front → is_update (front ++ rest) ≡ false
field_first table entry next front rest is =
    elim is [
      | inl h ↦ ne_eqb (slice_index (front ++ rest) 0 / 32) 1 (λ e. omega (arith, form_is 7 1 h.0.0 front rest h.0.1, e))
      | inr h ↦ elim h [
        | inl i ↦ ne_eqb (slice_index (front ++ rest) 0 / 32) 1 (λ e. omega (arith, literal_form 6 1 table entry front rest i.0, e))
        | inr i ↦ elim i.0 [
          | inl j ↦ ne_eqb (slice_index (front ++ rest) 0 / 32) 1 (λ e. omega (arith, literal_form 4 0 table entry front rest j, e))
          | inr j ↦ ne_eqb (slice_index (front ++ rest) 0 / 32) 1 (λ e. omega (arith, literal_form 4 1 table entry front rest j, e))
        ]
      ]
    ]

-- ---- lists of headers

-- what comes of a header that is read
onward : ℕ → ℕ → Header × Table × List ℕ → Result (List Header × Table) HpackFault
onward more room field = unless (nat_lt room (entry_size field.0)) ListTooLong (fields_in more field.1 (room - entry_size field.0) field.2 >>= λ others. Ok (field.0 ∷ others.0, others.1))

fields_step : (more : ℕ) (table : Table) (room : ℕ) (bytes : List ℕ) → 0 < length bytes → fields_in (suc more) table room bytes ≡ (field_at table bytes >>= onward more room)
unfolding fields_in onward
fields_step more table room [] some = absurd (omega arith)
fields_step more table room (byte ∷ bytes) some = refl

-- headers that are not too large together
record HasFields (table : Table) (headers : List Header) (next : Table) (room : ℕ) (bytes : List ℕ) : Type 0 where
  pub are : AreFields table headers next bytes
  pub fit : sum_by entry_size headers ≤ room

abbrev ended : List Header → Table → Result (List Header × Table) HpackFault
ended headers next = Ok (headers, next)

made_fields : (table : Table) (made : List Header) (after : Table) (room : ℕ) (bytes : List ℕ) (headers : List Header) (next : Table) → ended made after ≡ ended headers next → HasFields table made after room bytes → HasFields table headers next room bytes
made_fields table made after room bytes headers next e has = subst (λ (x : List Header × Table). HasFields table x.0 x.1 room bytes) (ok_is (made, after) (headers, next) e) has

no_fields : (table : Table) (room : ℕ) (bytes : List ℕ) → bytes ≡ [] → HasFields table [] table room bytes
no_fields table room bytes e = record { are = (e, refl); fit = omega arith }

one_field : (table : Table) (entry : Header) (between : Table) (bytes rest : List ℕ) (entries : List Header) (next : Table) (room : ℕ) → HasField table entry between bytes rest → entry_size entry ≤ room → HasFields between entries next (room - entry_size entry) rest → HasFields table (entry ∷ entries) next room bytes
one_field table entry between bytes rest entries next room has le others = record {
  are = (has.front, rest, between, has.is, others.are, has.bytes_are);
  fit = omega (arith, sum_by-cons entry_size entry entries, others.fit);
}

has_fields : (n : ℕ) (table : Table) (room : ℕ) (bytes : List ℕ) (headers : List Header) (next : Table) → length bytes ≤ n → AreBytes bytes → fields_in n table room bytes ≡ Ok (headers, next) → HasFields table headers next room bytes
unfolding fields_in onward
has_fields zero table room bytes headers next short small e = made_fields table [] table room bytes headers next e (no_fields table room bytes (nil_from_length bytes (omega arith)))
has_fields (suc n) table room [] headers next short small e = made_fields table [] table room [] headers next e (no_fields table room [] refl)
has_fields (suc n) table room (byte ∷ bytes) headers next short small e =
    let read = bind_ok (field_at table (byte ∷ bytes)) (onward n room) (headers, next) e in
    let entry = read.0.0 in
    let between = read.0.1 in
    let rest = read.0.2 in
    let has = has_field table (byte ∷ bytes) entry between rest small read.1 in
    let g = unless_ok (nat_lt room (entry_size entry)) ListTooLong (fields_in n between (room - entry_size entry) rest >>= λ others. Ok (entry ∷ others.0, others.1)) (headers, next) read.2 in
    let others = bind_ok (fields_in n between (room - entry_size entry) rest) (λ others. Ok (entry ∷ others.0, others.1)) (headers, next) g.1 in
    let shorter : length rest ≤ n = omega (arith, short, field_long table entry between has.front has.is, ap length has.bytes_are, length-append has.front rest) in
    let after = has_fields n between (room - entry_size entry) rest others.0.0 others.0.1 shorter (bytes_after has.front rest (subst AreBytes has.bytes_are small)) others.1 in
    made_fields table (entry ∷ others.0.0) others.0.1 room (byte ∷ bytes) headers next others.2
    (one_field table entry between (byte ∷ bytes) rest others.0.0 others.0.1 room has (ltb-false room (entry_size entry) g.0) after)

step_again : (entry : Header) (entries : List Header) (n : ℕ) (table : Table) (room : ℕ) (bytes : List ℕ) (next : Table) (are : AreFields table (entry ∷ entries) next bytes) → sum_by entry_size (entry ∷ entries) ≤ room → length bytes ≤ suc n
    → fields_in n are.2 (room - entry_size entry) are.1 ≡ Ok (entries, next) → fields_in (suc n) table room bytes ≡ Ok (entry ∷ entries, next)
unfolding onward
step_again entry entries n table room bytes next are fit short others =
    let some : 0 < length bytes = omega (arith, field_long table entry are.2 are.0 are.3, ap length are.5, length-append are.0 are.1) in
    let read : field_at table bytes ≡ Ok (entry, are.2, are.1) = ap (field_at table) are.5 ∙ field_again table entry are.2 are.0 are.1 are.3 in
    fields_step n table room bytes some ∙ rw (read, le-ltb room (entry_size entry) (omega (arith, sum_by-cons entry_size entry entries)), others) refl

fields_again : (headers : List Header) (n : ℕ) (table : Table) (room : ℕ) (bytes : List ℕ) (next : Table) → AreFields table headers next bytes → sum_by entry_size headers ≤ room → length bytes ≤ n → fields_in n table room bytes ≡ Ok (headers, next)
unfolding fields_in
fields_again [] zero table room bytes next are fit short = rw are.1 refl
fields_again [] (suc n) table room bytes next are fit short = rw (are.0, are.1) refl
fields_again (entry ∷ entries) zero table room bytes next are fit short =
    absurd (omega (arith, field_long table entry are.2 are.0 are.3, ap length are.5, length-append are.0 are.1))
fields_again (entry ∷ entries) (suc n) table room bytes next are fit short = step_again entry entries n table room bytes next are fit short
    (fields_again entries n are.2 (room - entry_size entry) are.1 next are.4 (omega (arith, sum_by-cons entry_size entry entries)) (omega (arith, field_long table entry are.2 are.0 are.3, ap length are.5, length-append are.0 are.1)))

-- ---- updates

record HasUpdates (table : Table) (between : Table) (bytes rest : List ℕ) : Type 0 where
  pub sizes : List ℕ
  pub front : List ℕ
  pub are : AreUpdates table sizes between front
  pub bytes_are : bytes ≡ front ++ rest

abbrev updated : Table → List ℕ → Result (Table × List ℕ) HpackFault
updated between rest = Ok (between, rest)

made_updates : (table made between : Table) (bytes left rest : List ℕ) → updated made left ≡ updated between rest → HasUpdates table made bytes left → HasUpdates table between bytes rest
made_updates table made between bytes left rest e has = subst (λ (x : Table × List ℕ). HasUpdates table x.0 bytes x.1) (ok_is (made, left) (between, rest) e) has

no_update : (table : Table) (bytes : List ℕ) → HasUpdates table table bytes bytes
no_update table bytes = record { sizes = []; front = []; are = (refl, refl); bytes_are = refl }

one_update : (table : Table) (size : ℕ) (bytes after : List ℕ) (between : Table) (rest : List ℕ) → HasInteger 5 1 size bytes after → size ≤ 4096 → HasUpdates (resized size table) between after rest → HasUpdates table between bytes rest
one_update table size bytes after between rest has le others = record {
  sizes = size ∷ others.sizes;
  front = has.front ++ others.front;
  are = (has.front, others.front, has.is, le, others.are, refl);
  bytes_are = has.bytes_are ∙ ap (λ (x : List ℕ). has.front ++ x) others.bytes_are ∙ sym (append_assoc has.front others.front rest);
}

has_updates : (n : ℕ) (table : Table) (bytes : List ℕ) (between : Table) (rest : List ℕ) → AreBytes bytes → updates_in n table bytes ≡ Ok (between, rest) → HasUpdates table between bytes rest
unfolding updates_in update_at
has_updates zero table bytes between rest small e = made_updates table table between bytes bytes rest e (no_update table bytes)
has_updates (suc n) table bytes between rest small e =
    elim (chosen (is_update bytes) (update_at table bytes >>= λ updated. updates_in n updated.0 updated.1) (Ok (table, bytes)) (Ok (between, rest)) e) [
      | inl h ↦
          let made = bind_ok (update_at table bytes) (λ updated. updates_in n updated.0 updated.1) (between, rest) h.1 in
          let read = bind_ok (integer_at 5 TableSize bytes) (λ size. unless (nat_lt 4096 size.0) TableSize (Ok (resized size.0 table, size.1))) made.0 made.1 in
          let size = read.0.0 in
          let after = read.0.1 in
          let g = unless_ok (nat_lt 4096 size) TableSize (Ok (resized size table, after)) made.0 read.2 in
          let has = has_integer 5 TableSize bytes size after small read.1 in
          let form : slice_index bytes 0 / 2 ^ 5 ≡ 1 = eqb-true (slice_index bytes 0 / 32) 1 h.0 in
          let next : updates_in n (resized size table) after ≡ Ok (between, rest) = ap (λ (x : Table × List ℕ). updates_in n x.0 x.1) (ok_is (resized size table, after) made.0 g.1) ∙ made.2 in
          one_update table size bytes after between rest (subst (λ (f : ℕ). HasInteger 5 f size bytes after) form has) (ltb-false 4096 size g.0)
          (has_updates n (resized size table) after between rest (bytes_after has.front after (subst AreBytes has.bytes_are small)) next)
      | inr h ↦ made_updates table table between bytes bytes rest h.1 (no_update table bytes)
    ]

updates_again : (sizes : List ℕ) (n : ℕ) (table between : Table) (front rest : List ℕ) → AreUpdates table sizes between front → is_update rest ≡ false → length front ≤ n → updates_in n table (front ++ rest) ≡ Ok (between, rest)
unfolding updates_in update_at
updates_again [] zero table between front rest are none short = rw (are.0, are.1) refl
updates_again [] (suc n) table between front rest are none short = rw (are.0, are.1, none) refl
updates_again (size ∷ sizes) zero table between front rest are none short =
    absurd (omega (arith, integer_long 5 1 size are.0 are.2, ap length are.5, length-append are.0 are.1))
updates_again (size ∷ sizes) (suc n) table between front rest are none short =
    let whole : front ++ rest ≡ are.0 ++ (are.1 ++ rest) = ap (λ (x : List ℕ). x ++ rest) are.5 ∙ append_assoc are.0 are.1 rest in
    let first : is_update (are.0 ++ (are.1 ++ rest)) ≡ true = eq-eqb (slice_index (are.0 ++ (are.1 ++ rest)) 0 / 32) 1 (form_is 5 1 size are.0 (are.1 ++ rest) are.2) in
    rw (whole, first, integer_again 5 1 size TableSize are.0 (are.1 ++ rest) are.2, le-ltb 4096 size are.3)
    (updates_again sizes n (resized size table) between are.1 rest are.4 none (omega (arith, integer_long 5 1 size are.0 are.2, ap length are.5, length-append are.0 are.1)))

-- ---- blocks

fields_first : (headers : List Header) (table next : Table) (bytes : List ℕ) → AreFields table headers next bytes → is_update bytes ≡ false
fields_first [] table next bytes are = rw are.0 refl
fields_first (entry ∷ entries) table next bytes are = ap is_update are.5 ∙ field_first table entry are.2 are.0 are.1 are.3

has_block : (table : Table) (bytes : List ℕ) (headers : List Header) (next : Table) → AreBytes bytes → block_at table bytes ≡ Ok (headers, next) → IsBlock table headers next bytes × (sum_by entry_size headers ≤ 65536)
unfolding block_at
has_block table bytes headers next small e =
    let made = bind_ok (updates_in (length bytes) table bytes) (λ updated. fields_in (length updated.1) updated.0 65536 updated.1) (headers, next) e in
    let between = made.0.0 in
    let rest = made.0.1 in
    let updates = has_updates (length bytes) table bytes between rest small made.1 in
    let fields = has_fields (length rest) between 65536 rest headers next (omega arith) (bytes_after updates.front rest (subst AreBytes updates.bytes_are small)) made.2 in
    (record { sizes = updates.sizes; between = between; front = updates.front; rest = rest; updates_are = updates.are; headers_are = fields.are; bytes_are = updates.bytes_are }, fields.fit)

block_again : (table : Table) (bytes : List ℕ) (headers : List Header) (next : Table) → IsBlock table headers next bytes → sum_by entry_size headers ≤ 65536 → block_at table bytes ≡ Ok (headers, next)
unfolding block_at
block_again table bytes headers next is fit =
    let few : length is.front ≤ length (is.front ++ is.rest) = omega (arith, length-append is.front is.rest) in
    rw (is.bytes_are, updates_again is.sizes (length (is.front ++ is.rest)) table is.between is.front is.rest is.updates_are (fields_first headers is.between next is.rest is.headers_are) few)
    (fields_again headers (length is.rest) is.between 65536 is.rest next is.headers_are fit (omega arith))

pub one_block : OneBlock
one_block table bytes headers next small = (has_block table bytes headers next small, λ h. block_again table bytes headers next h.0 h.1)
