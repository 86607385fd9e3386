-- Scans of the fields of a message, field by field.
use Rattle.std.proofs.Common.{◌≡◌, ℕ, Bool, true, false, cond, eqb, List, [], ◌∷◌, ◌++◌, map, Option, Some, None, Result, Ok, Err, refl, sym, ap, ◌∙◌, append_assoc}
use Rattle.std.specs.List.{filter, cons_option}
use Rattle.std.proofs.lemmas.List.{append-nil}
use Rattle.wire_fields.specs.Fields.{Payload, WireField}
use Rattle.std.specs.Str.{IsUtf8, is_utf8}
use Rattle.std.proofs.lemmas.Str.{IsUtf8-from_is_utf8, is_utf8-from_IsUtf8}
use Rattle.list_types.specs.Options.{◌>>=◌}
use Rattle.wire_messages.specs.Message.{each, last_or, given, at_most_one, as_text}
use Rattle.std.specs.Result.{IsErr}
use Rattle.wire_messages.specs.Answers.{Reads, Refuses}
use Rattle.list_types.specs.declared.memory.Refusal.{Refusal}
use Rattle.list_types.specs.declared.memory.Refusal.TheVariants.{NoMemory, For}
use Rattle.wire_messages.specs.declared.errors.Unreadable.{Unreadable}
use Rattle.wire_messages.specs.Scans.{last_from, all_from, one_from}

-- a scan that goes on from what the fields before gave
pub record Scan {S : Type 0} (rest : S → List WireField → Option S) : Type 0 where
  pub at_end : (before : S) → rest before [] ≡ Some before
  pub more : (before : S) (field : WireField) (fields : List WireField) → rest before (field ∷ fields) ≡ (rest before (field ∷ []) >>= λ after. rest after fields)

pub scan_next : {S : Type 0} (rest : S → List WireField → Option S) → Scan rest → (all others : List WireField) (field : WireField) (before after : S) (whole : Option S)
    → all ≡ field ∷ others → rest before all ≡ whole → rest before (field ∷ []) ≡ Some after → rest after others ≡ whole
scan_next rest scan all others field before after whole first e step =
    sym (ap (λ x. x >>= λ after. rest after others) step) ∙ sym (scan.more before field others) ∙ sym (ap (λ x. rest before x) first) ∙ e

pub scan_refused : {S : Type 0} (rest : S → List WireField → Option S) → Scan rest → (all others : List WireField) (field : WireField) (before : S) (whole : Option S)
    → all ≡ field ∷ others → rest before all ≡ whole → rest before (field ∷ []) ≡ None → whole ≡ None
scan_refused rest scan all others field before whole first e step =
    sym e ∙ ap (λ x. rest before x) first ∙ scan.more before field others ∙ ap (λ x. x >>= λ after. rest after others) step

pub scan_end : {S : Type 0} (rest : S → List WireField → Option S) → Scan rest → (all : List WireField) (before : S) (whole : Option S)
    → all ≡ [] → rest before all ≡ whole → whole ≡ Some before
scan_end rest scan all before whole none e =
    sym e ∙ ap (λ x. rest before x) none ∙ scan.at_end before

last_bind : {A : Type 0} (before : A) (first : Option A) (others : Option (List A)) →
    ((first >>= λ y. others >>= λ ys. Some (y ∷ ys)) >>= λ values. Some (last_or before values))
    ≡ (((first >>= λ y. Some (y ∷ [])) >>= λ values. Some (last_or before values)) >>= λ after. others >>= λ values. Some (last_or after values))
last_bind before None others = refl
last_bind before (Some y) None = refl
last_bind before (Some y) (Some ys) = refl

last_more : {A : Type 0} (read : Payload → Option A) (before : A) (test : Bool) (field : WireField) (kept : List WireField) →
    (each read (map (λ field. field.payload) (cond test (field ∷ kept) kept)) >>= λ values. Some (last_or before values))
    ≡ ((each read (map (λ field. field.payload) (cond test (field ∷ []) [])) >>= λ values. Some (last_or before values)) >>= λ after. each read (map (λ field. field.payload) kept) >>= λ values. Some (last_or after values))
last_more read before false field kept = refl
last_more read before true field kept = last_bind before (read field.payload) (each read (map (λ field. field.payload) kept))

pub last_scan : {A : Type 0} (read : Payload → Option A) (number : ℕ) → Scan (last_from read number)
last_scan read number = record {
  at_end = λ before. refl;
  more = λ before field fields. last_more read before (eqb field.number number) field (filter (λ field. eqb field.number number) fields);
}

some_again : {A : Type 0} (x : Option A) → (x >>= λ value. Some value) ≡ x
some_again None = refl
some_again (Some x) = refl

all_bind : {A : Type 0} (before : List A) (first : Option A) (others : Option (List A)) →
    ((first >>= λ y. others >>= λ ys. Some (y ∷ ys)) >>= λ values. Some (before ++ values))
    ≡ (((first >>= λ y. Some (y ∷ [])) >>= λ values. Some (before ++ values)) >>= λ after. others >>= λ values. Some (after ++ values))
all_bind before None others = refl
all_bind before (Some y) None = refl
all_bind before (Some y) (Some ys) = ap (λ x. Some x) (sym (append_assoc before (y ∷ []) ys))

all_skip : {A : Type 0} (before : List A) (others : Option (List A)) → (others >>= λ values. Some (before ++ values)) ≡ (others >>= λ values. Some ((before ++ []) ++ values))
all_skip before None = refl
all_skip before (Some ys) = ap (λ x. Some x) (sym (append_assoc before [] ys))

all_more : {A : Type 0} (read : Payload → Option A) (before : List A) (test : Bool) (field : WireField) (kept : List WireField) →
    (each read (map (λ field. field.payload) (cond test (field ∷ kept) kept)) >>= λ values. Some (before ++ values))
    ≡ ((each read (map (λ field. field.payload) (cond test (field ∷ []) [])) >>= λ values. Some (before ++ values)) >>= λ after. each read (map (λ field. field.payload) kept) >>= λ values. Some (after ++ values))
all_more read before false field kept = all_skip before (each read (map (λ field. field.payload) kept))
all_more read before true field kept = all_bind before (read field.payload) (each read (map (λ field. field.payload) kept))

pub all_scan : {A : Type 0} (read : Payload → Option A) (number : ℕ) → Scan (all_from read number)
all_scan read number = record {
  at_end = λ before. ap (λ x. Some x) (append-nil before);
  more = λ before field fields. all_more read before (eqb field.number number) field (filter (λ field. eqb field.number number) fields);
}

pub all_start : {A : Type 0} (read : Payload → Option A) (number : ℕ) (fields : List WireField) → all_from read number [] fields ≡ each read (given number fields)
all_start read number fields = some_again (each read (given number fields))

one_bind : {A : Type 0} (before : Option A) (first : Option A) (others : Option (List A)) →
    ((first >>= λ y. others >>= λ ys. Some (y ∷ ys)) >>= λ values. at_most_one (cons_option before values))
    ≡ (((first >>= λ y. Some (y ∷ [])) >>= λ values. at_most_one (cons_option before values)) >>= λ after. others >>= λ values. at_most_one (cons_option after values))
one_bind before None others = refl
one_bind None (Some y) None = refl
one_bind None (Some y) (Some ys) = refl
one_bind (Some x) (Some y) None = refl
one_bind (Some x) (Some y) (Some ys) = refl

one_more : {A : Type 0} (read : Payload → Option A) (before : Option A) (test : Bool) (field : WireField) (kept : List WireField) →
    (each read (map (λ field. field.payload) (cond test (field ∷ kept) kept)) >>= λ values. at_most_one (cons_option before values))
    ≡ ((each read (map (λ field. field.payload) (cond test (field ∷ []) [])) >>= λ values. at_most_one (cons_option before values)) >>= λ after. each read (map (λ field. field.payload) kept) >>= λ values. at_most_one (cons_option after values))
one_more read None false field kept = refl
one_more read (Some x) false field kept = refl
one_more read before true field kept = one_bind before (read field.payload) (each read (map (λ field. field.payload) kept))

at_most_one_here : {A : Type 0} (before : Option A) → at_most_one (cons_option before []) ≡ Some before
at_most_one_here None = refl
at_most_one_here (Some x) = refl

pub one_scan : {A : Type 0} (read : Payload → Option A) (number : ℕ) → Scan (one_from read number)
one_scan read number = record {
  at_end = at_most_one_here;
  more = λ before field fields. one_more read before (eqb field.number number) field (filter (λ field. eqb field.number number) fields);
}

-- an answer is refused where nothing is read
pub refused : {X Y E : Type 0} (view : X → Y) (answer : Result X E) (read : Option Y) → IsErr answer → read ≡ None → Reads view answer read
refused view (Ok x) read err e = absurd cc
refused view (Err d) read err e = e

-- a reader that takes memory refuses as the step that refused
pub refuses : {Y Z : Type 0} (d : Refusal Unreadable) (whole : Option Y) (step : Option Z) → Refuses d step → (step ≡ None → whole ≡ None) → Refuses d whole
refuses NoMemory whole step told no_more = tt
refuses (For cause) whole step told no_more = no_more told

-- bytes that are UTF-8 are a text
pub is_text : (bytes text : List ℕ) → IsUtf8 bytes → text ≡ bytes → as_text bytes ≡ Some text
is_text bytes text utf8 e = rw (is_utf8-from_IsUtf8 bytes utf8, e) refl

no_text_at : (bytes : List ℕ) → (IsUtf8 bytes → ⊥) → (test : Bool) → is_utf8 bytes ≡ test → ◌≡◌ {A = Option (List ℕ)} (cond test (Some bytes) None) None
no_text_at bytes other true e = absurd (other (IsUtf8-from_is_utf8 bytes e))
no_text_at bytes other false e = refl

-- bytes that are not UTF-8 are none
pub no_text : (bytes : List ℕ) → (IsUtf8 bytes → ⊥) → as_text bytes ≡ None
no_text bytes other = no_text_at bytes other (is_utf8 bytes) refl
