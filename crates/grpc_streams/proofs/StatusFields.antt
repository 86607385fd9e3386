-- A Status that is read field by field.
use Rattle.std.proofs.Common.{◌≡◌, ℕ, zero, suc, Bool, true, false, ◌||◌, ◌==◌, List, [], ◌∷◌, Some, Result, Ok, Err, refl, ◌∙◌}
use Rattle.wire_fields.specs.declared.wire.WireFault.{WireFault}
use Rattle.wire_fields.specs.declared.wire.WireFault.TheVariants.{Truncated}
use Rattle.wire_fields.specs.Fields.{WireField}
use Rattle.wire_fields.specs.Field.{Begins}
use Rattle.wire_fields.specs.Reading.{varint_in, tag_at, field_at, fault_of, fault_at}
use Rattle.wire_fields.proofs.Messages.{begins_again}
use Rattle.grpc_streams.specs.Answers.{fields_in, next_text, text_from, has_details}

-- what the fields that are left still say
pub record AreFollowed (text : List ℕ) (details : Bool) (n : ℕ) (text_now : List ℕ) (details_now : Bool) (rest : List ℕ) : Type 0 where
  pub text_is : text_from text_now (fields_in n rest) ≡ text
  pub details_are : (details_now || has_details (fields_in n rest)) ≡ details

-- nothing is left
pub record AreAll (text : List ℕ) (details : Bool) (text_now : List ℕ) (details_now : Bool) : Type 0 where
  pub text_is : text_now ≡ text
  pub details_are : details_now ≡ details

no_bytes : field_at [] ≡ Err Truncated
unfolding field_at tag_at varint_in
no_bytes = refl

none_left : (n : ℕ) → fields_in n [] ≡ []
unfolding fields_in
none_left zero = refl
none_left (suc n) = rw no_bytes refl

fault_is : (read : Result (WireField × List ℕ) WireFault) (fault : WireFault) → fault_of read ≡ Some fault → read ≡ Err fault
fault_is (Ok x) fault e = absurd cc
fault_is (Err other) fault e = cc

none_at_fault : (n : ℕ) (bytes : List ℕ) (fault : WireFault) → fault_at bytes ≡ Some fault → fields_in n bytes ≡ []
unfolding fields_in
none_at_fault n [] fault e = none_left n
none_at_fault zero (b ∷ bytes) fault e = refl
none_at_fault (suc n) (b ∷ bytes) fault e = rw (fault_is (field_at (b ∷ bytes)) fault e) refl

none_more : (n : ℕ) (bytes : List ℕ) → n ≡ 0 → fields_in n bytes ≡ []
unfolding fields_in
none_more n bytes en = rw en refl

first : (n more : ℕ) (bytes rest : List ℕ) (field : WireField) → n ≡ suc more → Begins field bytes rest → fields_in n bytes ≡ field ∷ fields_in more rest
unfolding fields_in
first n more bytes rest field en begins = rw (en, begins_again field bytes rest begins) refl

or_none : (b : Bool) → b ≡ (b || false)
or_none true = refl
or_none false = refl

or_both : (a b c : Bool) → ((a || b) || c) ≡ (a || (b || c))
or_both true b c = refl
or_both false b c = refl

all_read : (text : List ℕ) (details : Bool) (n : ℕ) (text_now : List ℕ) (details_now : Bool) (rest : List ℕ) → fields_in n rest ≡ [] → AreFollowed text details n text_now details_now rest → AreAll text details text_now details_now
all_read text details n text_now details_now rest e left = record {
  text_is = rw e at left.text_is;
  details_are = or_none details_now ∙ rw e at left.details_are;
}

pub all_at_end : (text : List ℕ) (details : Bool) (n : ℕ) (text_now : List ℕ) (details_now : Bool) (rest : List ℕ) → rest ≡ [] → AreFollowed text details n text_now details_now rest → AreAll text details text_now details_now
all_at_end text details n text_now details_now rest e left = all_read text details n text_now details_now rest (rw e (none_left n)) left

pub all_at_fault : (text : List ℕ) (details : Bool) (n : ℕ) (text_now : List ℕ) (details_now : Bool) (rest : List ℕ) (fault : WireFault) → fault_at rest ≡ Some fault → AreFollowed text details n text_now details_now rest → AreAll text details text_now details_now
all_at_fault text details n text_now details_now rest fault e left = all_read text details n text_now details_now rest (none_at_fault n rest fault e) left

pub all_at_last : (text : List ℕ) (details : Bool) (n : ℕ) (text_now : List ℕ) (details_now : Bool) (rest : List ℕ) → n ≡ 0 → AreFollowed text details n text_now details_now rest → AreAll text details text_now details_now
all_at_last text details n text_now details_now rest en left = all_read text details n text_now details_now rest (none_more n rest en) left

pub goes_on : (text : List ℕ) (details : Bool) (n more : ℕ) (text_now text_next : List ℕ) (details_now details_next : Bool) (rest after : List ℕ) (field : WireField)
    → n ≡ suc more → Begins field rest after → text_next ≡ next_text text_now field.number field.payload → details_next ≡ (details_now || field.number == 3)
    → AreFollowed text details n text_now details_now rest → AreFollowed text details more text_next details_next after
goes_on text details n more text_now text_next details_now details_next rest after field en begins et ed left = record {
  text_is = rw et (rw (first n more rest after field en begins) at left.text_is);
  details_are = rw ed (or_both details_now (field.number == 3) (has_details (fields_in more after)) ∙ rw (first n more rest after field en begins) at left.details_are);
}
