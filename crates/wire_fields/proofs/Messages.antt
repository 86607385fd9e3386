-- What is read as a field is one, and a field is read again.
use Rattle.std.proofs.Common.{◌≡◌, ℕ, ◌+◌, ◌*◌, ◌/◌, ◌%◌, ◌<◌, ◌≤◌, cond, eqb, ltb, ◌||◌, List, [], ◌∷◌, ◌++◌, length, Result, Ok, Err, refl, sym, ap, subst, ◌∙◌, append_assoc, arith, inl, inr, Bor}
use Rattle.std.specs.Prelude.{IfOk}
use Rattle.wire_fields.specs.declared.wire.Field.{Field}
use Rattle.std.proofs.lemmas.List.{length-append}
use Rattle.std.proofs.lemmas.Bool.{eqb-true, eqb-false, ltb-false, le-ltb, ne_eqb, or_parts}
use Rattle.wire_fields.specs.declared.wire.WireFault.{WireFault}
use Rattle.wire_fields.specs.declared.wire.WireFault.TheVariants.{BadType, ZeroField}
use Rattle.wire_fields.specs.declared.wire.WireType.{WireType}
use Rattle.wire_fields.specs.declared.wire.WireType.TheVariants as types
use Rattle.wire_fields.specs.Fields.{Payload, Varint, Fixed64, Bytes, Fixed32, WireField, wire_type, tag, IsVarint, FieldSpells}
use Rattle.wire_fields.specs.Field.{field_of, Begins}
use Rattle.list_types.specs.Results.{◌>>=◌, GivesExactly}
use Rattle.wire_fields.specs.Reading.{varint_at, type_of, tag_at, payload_at, numbered, field_at}
use Rattle.wire_fields.proofs.Steps.{IsBytes, IsBytes-after, bind_ok, guard_ok, chosen, ok_is, err_not_ok}
use Rattle.wire_fields.proofs.Varints.{HasVarint, has_varint, varint_again}
use Rattle.wire_fields.proofs.Payloads.{number_of, type_is, HasPayload, has_payload, payload_again}

type_number : (n : ℕ) (kind : WireType) → type_of n ≡ Ok kind → n ≡ number_of kind
type_number n kind e =
    elim (chosen (eqb n 0) (Ok types.Varint) (cond (eqb n 1) (Ok types.Fixed64) (cond (eqb n 2) (Ok types.Bytes) (cond (eqb n 5) (Ok types.Fixed32) (Err BadType)))) (Ok kind) e) [
      | inl h ↦ rw (← ok_is types.Varint kind h.1) (eqb-true n 0 h.0)
      | inr h ↦ elim (chosen (eqb n 1) (Ok types.Fixed64) (cond (eqb n 2) (Ok types.Bytes) (cond (eqb n 5) (Ok types.Fixed32) (Err BadType))) (Ok kind) h.1) [
        | inl h ↦ rw (← ok_is types.Fixed64 kind h.1) (eqb-true n 1 h.0)
        | inr h ↦ elim (chosen (eqb n 2) (Ok types.Bytes) (cond (eqb n 5) (Ok types.Fixed32) (Err BadType)) (Ok kind) h.1) [
          | inl h ↦ rw (← ok_is types.Bytes kind h.1) (eqb-true n 2 h.0)
          | inr h ↦ elim (chosen (eqb n 5) (Ok types.Fixed32) (Err BadType) (Ok kind) h.1) [
            | inl h ↦ rw (← ok_is types.Fixed32 kind h.1) (eqb-true n 5 h.0)
            | inr h ↦ absurd (err_not_ok BadType kind h.1)
          ]
        ]
      ]
    ]

-- the tag of a field, and what comes after it
record HasTag (bytes : List ℕ) (number : ℕ) (kind : WireType) (rest : List ℕ) : Type 0 where
  pub not_zero : 0 < number
  pub in_range : number ≤ 536870911
  pub front : List ℕ
  pub tag_is : IsVarint front (8 * number + number_of kind)
  pub bytes_are : bytes ≡ front ++ rest

-- a tag of this type, where its number is in range
typed_tag : (bytes : List ℕ) (n : ℕ) (after : List ℕ) (found kind : WireType) (number : ℕ) (rest : List ℕ) → HasVarint bytes n after → n % 8 ≡ number_of found
    → cond {A = Result (ℕ × WireType × List ℕ) WireFault} (eqb (n / 8) 0 || ltb 536870911 (n / 8)) (Err ZeroField) (Ok (n / 8, found, after)) ≡ Ok (number, kind, rest) → HasTag bytes number kind rest
typed_tag bytes n after found kind number rest has typed e =
    let g = guard_ok (eqb (n / 8) 0 || ltb 536870911 (n / 8)) ZeroField (n / 8, found, after) (number, kind, rest) e in
    let parts = or_parts (eqb (n / 8) 0) (ltb 536870911 (n / 8)) g.0 in
    let not_zero : (n / 8 ≡ 0 → ⊥) = eqb-false _ _ parts.0 in
    let in_range : n / 8 ≤ 536870911 = ltb-false _ _ parts.1 in
    let tag_is : n ≡ 8 * (n / 8) + number_of found = omega arith in
    subst (λ (x : ℕ × WireType × List ℕ). HasTag bytes x.0 x.1 x.2) g.1 (record {
      not_zero = omega arith;
      in_range = in_range;
      front = has.front;
      tag_is = subst (λ (k : ℕ). IsVarint has.front k) tag_is has.is_varint;
      bytes_are = has.bytes_are;
    })

has_tag : (bytes : List ℕ) (number : ℕ) (kind : WireType) (rest : List ℕ) → IsBytes bytes → tag_at bytes ≡ Ok (number, kind, rest) → HasTag bytes number kind rest
unfolding tag_at
has_tag bytes number kind rest fits e =
    let read = bind_ok (varint_at bytes) (λ tag. type_of (tag.0 % 8) >>= λ kind. cond (eqb (tag.0 / 8) 0 || ltb 536870911 (tag.0 / 8)) (Err ZeroField) (Ok (tag.0 / 8, kind, tag.1))) (number, kind, rest) e in
    let n = read.0.0 in
    let after = read.0.1 in
    let typed = bind_ok (type_of (n % 8)) (λ kind. cond (eqb (n / 8) 0 || ltb 536870911 (n / 8)) (Err ZeroField) (Ok (n / 8, kind, after))) (number, kind, rest) read.2 in
    typed_tag bytes n after typed.0 kind number rest (has_varint bytes n after fits read.1) (type_number (n % 8) typed.0 typed.1) typed.2

made_of : (bytes : List ℕ) (number : ℕ) (kind : WireType) (after : List ℕ) (payload : Payload) (rest : List ℕ) → HasTag bytes number kind after → HasPayload kind after payload rest
    → Begins (record { number = number; payload = payload }) bytes rest
made_of bytes number kind after payload rest t p = record {
  front = t.front ++ p.back;
  spells = record {
    not_zero = t.not_zero;
    in_range = t.in_range;
    front = t.front;
    back = p.back;
    tag_is = subst (λ (k : ℕ). IsVarint t.front (8 * number + k)) (sym p.kind_is) t.tag_is;
    payload_is = p.spells;
    bytes_are = refl;
  };
  bytes_are = t.bytes_are ∙ ap (λ x. t.front ++ x) p.bytes_are ∙ sym (append_assoc t.front p.back rest);
}

pub has_field : (bytes : List ℕ) (field : WireField) (rest : List ℕ) → IsBytes bytes → field_at bytes ≡ Ok (field, rest) → Begins field bytes rest
unfolding field_at
has_field bytes field rest fits e =
    let read = bind_ok (tag_at bytes) (λ tag. numbered tag.0 (payload_at tag.1 tag.2)) (field, rest) e in
    let tag = read.0 in
    let load = bind_ok (payload_at tag.1 tag.2) (λ payload. Ok (record { number = tag.0; payload = payload.0 }, payload.1)) (field, rest) read.2 in
    let t = has_tag bytes tag.0 tag.1 tag.2 fits read.1 in
    let p = has_payload tag.1 tag.2 load.0.0 load.0.1 (IsBytes-after t.front tag.2 (subst IsBytes t.bytes_are fits)) load.1 in
    let made : WireField × List ℕ = (record { number = tag.0; payload = load.0.0 }, load.0.1) in
    let begins = made_of bytes tag.0 tag.1 tag.2 load.0.0 load.0.1 t p in
    subst (λ (x : WireField × List ℕ). Begins x.0 bytes x.1) (ok_is made (field, rest) load.2) begins

pub has_begun : (bytes : List ℕ) (read : Result (Field × Bor (List ℕ)) WireFault) → IsBytes bytes → GivesExactly (λ x. (field_of x.0, x.1.now)) read (field_at bytes)
    → IfOk read (λ x. Begins (field_of x.0) bytes x.1.now)
has_begun bytes (Ok x) fits given = has_field bytes (field_of x.0) x.1.now fits given
has_begun bytes (Err fault) fits given = tt

type_again : (payload : Payload) → type_of (wire_type payload) ≡ Ok (type_is payload)
type_again (Varint value) = refl
type_again (Fixed64 value) = refl
type_again (Bytes bytes) = refl
type_again (Fixed32 value) = refl

pub type_below : (payload : Payload) → wire_type payload < 8
type_below (Varint value) = omega arith
type_below (Fixed64 value) = omega arith
type_below (Bytes bytes) = omega arith
type_below (Fixed32 value) = omega arith

tag_again : (field : WireField) (front rest : List ℕ) → 0 < field.number → field.number ≤ 536870911 → IsVarint front (tag field) → tag_at (front ++ rest) ≡ Ok (field.number, type_is field.payload, rest)
unfolding tag_at
tag_again field front rest not_zero in_range is =
    let below = type_below field.payload in
    let type_part : tag field % 8 ≡ wire_type field.payload = omega arith in
    let number_part : tag field / 8 ≡ field.number = omega arith in
    rw (varint_again front rest (tag field) is, type_part, type_again field.payload, number_part, ne_eqb field.number 0 (λ e. omega arith), le-ltb 536870911 field.number in_range) refl

pub field_again : (field : WireField) (front rest : List ℕ) → FieldSpells field front → field_at (front ++ rest) ≡ Ok (field, rest)
unfolding field_at
field_again field front rest spells =
    let regrouped : front ++ rest ≡ spells.front ++ (spells.back ++ rest) = ap (λ x. x ++ rest) spells.bytes_are ∙ append_assoc spells.front spells.back rest in
    ap field_at regrouped ∙ rw (tag_again field spells.front (spells.back ++ rest) spells.not_zero spells.in_range spells.tag_is, payload_again field.payload spells.back rest spells.payload_is) refl

-- the bytes begin with one field at most, and it is read
pub begins_again : (field : WireField) (bytes rest : List ℕ) → Begins field bytes rest → field_at bytes ≡ Ok (field, rest)
begins_again field bytes rest begins = ap field_at begins.bytes_are ∙ field_again field begins.front rest begins.spells

has_bytes : (front : List ℕ) (value : ℕ) → IsVarint front value → 0 < length front
has_bytes [] value is = absurd is.ends
has_bytes (b ∷ front) value is = omega arith

-- a field takes a byte at least
pub Begins-shorter : (field : WireField) (bytes rest : List ℕ) → Begins field bytes rest → length rest < length bytes
Begins-shorter field bytes rest begins =
    let spells = begins.spells in
    let some = has_bytes spells.front (tag field) spells.tag_is in
    let whole = length-append begins.front rest in
    let parts = length-append spells.front spells.back in
    omega (arith, ap length begins.bytes_are, ap length spells.bytes_are)

pub has_shrunk : (bytes : List ℕ) (read : Result (Field × Bor (List ℕ)) WireFault) → IfOk read (λ x. Begins (field_of x.0) bytes x.1.now) → IfOk read (λ x. length x.1.now < length bytes)
has_shrunk bytes (Ok x) begins = Begins-shorter (field_of x.0) bytes x.1.now begins
has_shrunk bytes (Err fault) begins = tt
