-- Memory is asked for only once the first of the values is read.
use Rattle.std.proofs.Common.{◌≡◌, ℕ, zero, suc, Bool, true, false, cond, eqb, is_some, List, [], ◌∷◌, length, map, Option, Some, None, refl, ap, ◌∙◌}
use Rattle.std.specs.List.{filter}
use Rattle.std.specs.Result.{result_ok}
use Rattle.std.proofs.lemmas.Bool.{eq-eqb}
use Rattle.list_types.specs.Options.{◌>>=◌}
use Rattle.wire_fields.specs.Fields.{Payload, Varint, Fixed64, Bytes, Fixed32, WireField}
use Rattle.wire_fields.specs.Reading.{varint_in, varint_at}
use Rattle.wire_messages.specs.Answers.{first_is_read, packed_first, first_number_is_read}
use Rattle.wire_messages.specs.Message.{each, given, packed_in, numbers_of}
use Rattle.wire_messages.specs.Numbers.{as_uint32}

-- A test of whether memory is asked for: a payload that is read does not end it, and what it says of the first it says of all.
pub record Asks {A : Type 0} (read : Payload → Option A) (asks : List Payload → Bool) : Type 0 where
  pub none : asks [] ≡ false
  pub passes : (payload : Payload) (others : List Payload) (value : A) → read payload ≡ Some value → asks others ≡ true → asks (payload ∷ others) ≡ true
  pub begins : (payload : Payload) (others : List Payload) → asks (payload ∷ []) ≡ true → asks (payload ∷ others) ≡ true

is_read : {A S : Type 0} (first : Option A) (kept : List A → S) (after : S) → ((first >>= λ y. Some (y ∷ [])) >>= λ values. Some (kept values)) ≡ Some after → (value : A) × (first ≡ Some value)
is_read None kept after e = absurd cc
is_read (Some value) kept after e = (value, refl)

passes_at : {A S : Type 0} (read : Payload → Option A) (asks : List Payload → Bool) → Asks read asks → (kept : List A → S) (test : Bool) (field : WireField) (others : List WireField) (after : S)
    → (each read (map (λ field. field.payload) (cond test (field ∷ []) [])) >>= λ values. Some (kept values)) ≡ Some after
    → asks (map (λ field. field.payload) others) ≡ true → asks (map (λ field. field.payload) (cond test (field ∷ others) others)) ≡ true
passes_at read asks law kept false field others after e asked = asked
passes_at read asks law kept true field others after e asked =
    let value = is_read (read field.payload) kept after e in
    law.passes field.payload (map (λ field. field.payload) others) value.0 value.1 asked

begins_at : {A : Type 0} (read : Payload → Option A) (asks : List Payload → Bool) → Asks read asks → (test : Bool) (field : WireField) (others : List WireField)
    → asks (map (λ field. field.payload) (cond test (field ∷ []) [])) ≡ true → asks (map (λ field. field.payload) (cond test (field ∷ others) others)) ≡ true
begins_at read asks law false field others asked = absurd (let none = law.none in cc)
begins_at read asks law true field others asked = law.begins field.payload (map (λ field. field.payload) others) asked

-- a field that is read leaves the question to the fields behind it
pub asks_next : {A S : Type 0} (read : Payload → Option A) (asks : List Payload → Bool) → Asks read asks → (kept : List A → S) (number : ℕ) (all others : List WireField) (field : WireField) (after : S) (whole : Bool)
    → all ≡ field ∷ others → (asks (given number all) ≡ true → whole ≡ true)
    → (each read (given number (field ∷ [])) >>= λ values. Some (kept values)) ≡ Some after
    → asks (given number others) ≡ true → whole ≡ true
asks_next read asks law kept number all others field after whole first so_far step asked =
    so_far (ap (λ x. asks (given number x)) first ∙ passes_at read asks law kept (eqb field.number number) field (filter (λ field. eqb field.number number) others) after step asked)

-- a field that asks for memory answers for all
pub asks_here : {A : Type 0} (read : Payload → Option A) (asks : List Payload → Bool) → Asks read asks → (number : ℕ) (all others : List WireField) (field : WireField) (whole : Bool)
    → all ≡ field ∷ others → (asks (given number all) ≡ true → whole ≡ true)
    → asks (given number (field ∷ [])) ≡ true → whole ≡ true
asks_here read asks law number all others field whole first so_far asked =
    so_far (ap (λ x. asks (given number x)) first ∙ begins_at read asks law (eqb field.number number) field (filter (λ field. eqb field.number number) others) asked)

pub first_asks : {A : Type 0} (read : Payload → Option A) → Asks read (first_is_read read)
first_asks read = record {
  none = refl;
  passes = λ payload others value e asked. ap is_some e;
  begins = λ payload others asked. asked;
}

number_read : (first : Option ℕ) (values : List ℕ) → (first >>= λ x. Some (x ∷ [])) ≡ Some values → is_some first ≡ true
number_read None values e = absurd cc
number_read (Some x) values e = refl

first_read : (first : Option ℕ) (others : Option (List ℕ)) (values : List ℕ) → (first >>= λ first. others >>= λ others. Some (first ∷ others)) ≡ Some values → is_some first ≡ true
first_read None others values e = absurd cc
first_read (Some x) others values e = refl

packed_read : (first : Option (ℕ × List ℕ)) (steps : ℕ) (values : List ℕ) → (first >>= λ x. as_uint32 x.0 >>= λ first. packed_in as_uint32 steps x.1 >>= λ others. Some (first ∷ others)) ≡ Some values
    → is_some (first >>= λ x. as_uint32 x.0) ≡ true
packed_read None steps values e = absurd cc
packed_read (Some x) steps values e = first_read (as_uint32 x.0) (packed_in as_uint32 steps x.1) values e

-- numbers that are packed are read only where the first is
packed_reads : (steps b : ℕ) (bytes values : List ℕ) → packed_in as_uint32 steps (b ∷ bytes) ≡ Some values → is_some (packed_first (b ∷ bytes)) ≡ true
unfolding packed_in
packed_reads zero b bytes values e = absurd cc
packed_reads (suc steps) b bytes values e = packed_read (result_ok (varint_at (b ∷ bytes))) steps values e

numbers_pass : (payload : Payload) (others : List Payload) (values : List ℕ) → numbers_of as_uint32 payload ≡ Some values → first_number_is_read others ≡ true → first_number_is_read (payload ∷ others) ≡ true
numbers_pass (Varint value) others values e asked = number_read (as_uint32 value) values e
numbers_pass (Fixed64 value) others values e asked = absurd cc
numbers_pass (Bytes []) others values e asked = asked
numbers_pass (Bytes (b ∷ bytes)) others values e asked = packed_reads (length (b ∷ bytes)) b bytes values e
numbers_pass (Fixed32 value) others values e asked = absurd cc

numbers_begin : (payload : Payload) (others : List Payload) → first_number_is_read (payload ∷ []) ≡ true → first_number_is_read (payload ∷ others) ≡ true
numbers_begin (Varint value) others asked = asked
numbers_begin (Fixed64 value) others asked = absurd cc
numbers_begin (Bytes []) others asked = absurd cc
numbers_begin (Bytes (b ∷ bytes)) others asked = asked
numbers_begin (Fixed32 value) others asked = absurd cc

pub numbers_ask : Asks (numbers_of as_uint32) first_number_is_read
numbers_ask = record { none = refl; passes = numbers_pass; begins = numbers_begin }

-- the bytes of a field with packed numbers
packed_here : (bytes : List ℕ) → is_some (packed_first bytes) ≡ true → first_number_is_read (Bytes bytes ∷ []) ≡ true
unfolding varint_in
packed_here [] asked = asked
packed_here (b ∷ bytes) asked = asked

packed_at : (field : WireField) (bytes : List ℕ) (test : Bool) → test ≡ true → field.payload ≡ Bytes bytes → is_some (packed_first bytes) ≡ true → first_number_is_read (map (λ field. field.payload) (cond test (field ∷ []) [])) ≡ true
packed_at field bytes true same is asked = ap (λ payload. first_number_is_read (payload ∷ [])) is ∙ packed_here bytes asked
packed_at field bytes false same is asked = absurd cc

pub packed_asks : (number : ℕ) (field : WireField) (bytes : List ℕ) → field.number ≡ number → field.payload ≡ Bytes bytes → is_some (packed_first bytes) ≡ true → first_number_is_read (given number (field ∷ [])) ≡ true
packed_asks number field bytes same is asked = packed_at field bytes (eqb field.number number) (eq-eqb field.number number same) is asked
