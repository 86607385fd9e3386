-- Numbers that are packed, read one after another.
use Rattle.std.proofs.Common.{◌≡◌, ℕ, zero, suc, ◌<◌, ◌≤◌, Bool, true, false, cond, eqb, is_some, List, [], ◌∷◌, ◌++◌, length, map, Option, Some, None, Result, Ok, Err, refl, sym, ap, ◌∙◌, append_assoc, arith}
use Rattle.std.specs.List.{filter}
use Rattle.std.specs.Result.{result_ok}
use Rattle.std.proofs.lemmas.List.{append-nil}
use Rattle.wire_fields.specs.declared.wire.WireFault.{WireFault}
use Rattle.wire_fields.specs.Fields.{WireField}
use Rattle.wire_fields.specs.Reading.{varint_at}
use Rattle.list_types.specs.Options.{◌>>=◌}
use Rattle.wire_messages.specs.Answers.{packed_first}
use Rattle.wire_messages.specs.Message.{each, given, flatten, packed_in, numbers_of}
use Rattle.wire_messages.specs.Numbers.{as_uint32}
use Rattle.wire_messages.specs.Scans.{packed_from, numbers_from}
use Rattle.wire_messages.proofs.Scanning.{Scan}

-- so many steps suffice for what is left
pub record Packed (left found : List ℕ) (whole : Option (List ℕ)) : Type 0 where
  pub steps : ℕ
  pub enough : length left ≤ steps
  pub goes_on : (packed_in as_uint32 steps left >>= λ values. Some (found ++ values)) ≡ whole

pub packed_start : (bytes found : List ℕ) → Packed bytes found (packed_from found bytes)
packed_start bytes found = record { steps = length bytes; enough = omega arith; goes_on = refl }

-- the first of what is left, and the rest
abbrev after_one : Result (ℕ × List ℕ) WireFault → ℕ → List ℕ → Option (List ℕ)
after_one read steps found = (result_ok read >>= λ x. as_uint32 x.0 >>= λ first. packed_in as_uint32 steps x.1 >>= λ others. Some (first ∷ others)) >>= λ values. Some (found ++ values)

packed_one : (steps : ℕ) (left found : List ℕ) (whole : Option (List ℕ)) → 0 < length left → length left ≤ steps → (packed_in as_uint32 steps left >>= λ values. Some (found ++ values)) ≡ whole
    → (fewer : ℕ) × (steps ≡ suc fewer) × (after_one (varint_at left) fewer found ≡ whole)
unfolding packed_in
packed_one steps [] found whole some enough e = absurd (omega arith)
packed_one zero (b ∷ bytes) found whole some enough e = absurd (omega arith)
packed_one (suc fewer) (b ∷ bytes) found whole some enough e = (fewer, refl, e)

pub packed_fault : (left found : List ℕ) (whole : Option (List ℕ)) (fault : WireFault) → Packed left found whole → 0 < length left → varint_at left ≡ Err fault → whole ≡ None
packed_fault left found whole fault packed some e =
    let one = packed_one packed.steps left found whole some packed.enough packed.goes_on in
    sym one.2 ∙ ap (λ r. after_one r one.0 found) e

pub packed_range : (left found : List ℕ) (whole : Option (List ℕ)) (value : ℕ) (rest : List ℕ) → Packed left found whole → 0 < length left → varint_at left ≡ Ok (value, rest) → as_uint32 value ≡ None → whole ≡ None
packed_range left found whole value rest packed some e none =
    let one = packed_one packed.steps left found whole some packed.enough packed.goes_on in
    sym one.2 ∙ ap (λ r. after_one r one.0 found) e
    ∙ ap (λ (o : Option ℕ). (o >>= λ first. packed_in as_uint32 one.0 rest >>= λ others. Some (first ∷ others)) >>= λ values. Some (found ++ values)) none

-- the first of what is left is read
pub first_here : (left : List ℕ) (value x : ℕ) (rest : List ℕ) → varint_at left ≡ Ok (value, rest) → as_uint32 value ≡ Some x → is_some (packed_first left) ≡ true
first_here left value x rest e is = ap (λ r. is_some (result_ok r >>= λ x. as_uint32 x.0)) e ∙ ap is_some is

regroup : (found : List ℕ) (x : ℕ) (others : Option (List ℕ)) → (others >>= λ values. Some ((found ++ x ∷ []) ++ values)) ≡ ((others >>= λ others. Some (x ∷ others)) >>= λ values. Some (found ++ values))
regroup found x None = refl
regroup found x (Some ys) = ap (λ x. Some x) (append_assoc found (x ∷ []) ys)

pub packed_next : (left found : List ℕ) (whole : Option (List ℕ)) (value x : ℕ) (rest : List ℕ) → Packed left found whole → 0 < length left → varint_at left ≡ Ok (value, rest) → length rest < length left → as_uint32 value ≡ Some x → Packed rest (found ++ x ∷ []) whole
packed_next left found whole value x rest packed some e shorter is =
    let one = packed_one packed.steps left found whole some packed.enough packed.goes_on in
    let enough = packed.enough in
    let steps_are = one.1 in
    let read : after_one (varint_at left) one.0 found ≡ ((packed_in as_uint32 one.0 rest >>= λ others. Some (x ∷ others)) >>= λ values. Some (found ++ values)) =
    ap (λ r. after_one r one.0 found) e ∙ ap (λ (o : Option ℕ). (o >>= λ first. packed_in as_uint32 one.0 rest >>= λ others. Some (first ∷ others)) >>= λ values. Some (found ++ values)) is in
    record {
      steps = one.0;
      enough = omega arith;
      goes_on = regroup found x (packed_in as_uint32 one.0 rest) ∙ sym read ∙ one.2;
    }

nothing_left : (steps : ℕ) → packed_in as_uint32 steps [] ≡ Some []
unfolding packed_in
nothing_left zero = refl
nothing_left (suc steps) = refl

pub packed_end : (left found : List ℕ) (whole : Option (List ℕ)) → Packed left found whole → length left ≡ 0 → whole ≡ Some found
packed_end [] found whole packed e =
    sym packed.goes_on ∙ ap (λ x. x >>= λ values. Some (found ++ values)) (nothing_left packed.steps) ∙ ap (λ x. Some x) (append-nil found)
packed_end (b ∷ left) found whole packed e = absurd (omega arith)

numbers_bind : (before : List ℕ) (first : Option (List ℕ)) (others : Option (List (List ℕ))) →
    ((first >>= λ y. others >>= λ ys. Some (y ∷ ys)) >>= λ lists. Some (before ++ flatten lists))
    ≡ (((first >>= λ y. Some (y ∷ [])) >>= λ lists. Some (before ++ flatten lists)) >>= λ after. others >>= λ lists. Some (after ++ flatten lists))
numbers_bind before None others = refl
numbers_bind before (Some y) None = refl
numbers_bind before (Some y) (Some ys) = ap (λ x. Some x) (sym (append_assoc before y (flatten ys)) ∙ ap (λ x. (before ++ x) ++ flatten ys) (sym (append-nil y)))

numbers_skip : (before : List ℕ) (others : Option (List (List ℕ))) → (others >>= λ lists. Some (before ++ flatten lists)) ≡ (others >>= λ lists. Some ((before ++ []) ++ flatten lists))
numbers_skip before None = refl
numbers_skip before (Some ys) = ap (λ x. Some (x ++ flatten ys)) (sym (append-nil before))

numbers_more : (before : List ℕ) (test : Bool) (field : WireField) (kept : List WireField) →
    (each (numbers_of as_uint32) (map (λ field. field.payload) (cond test (field ∷ kept) kept)) >>= λ lists. Some (before ++ flatten lists))
    ≡ ((each (numbers_of as_uint32) (map (λ field. field.payload) (cond test (field ∷ []) [])) >>= λ lists. Some (before ++ flatten lists)) >>= λ after. each (numbers_of as_uint32) (map (λ field. field.payload) kept) >>= λ lists. Some (after ++ flatten lists))
numbers_more before false field kept = numbers_skip before (each (numbers_of as_uint32) (map (λ field. field.payload) kept))
numbers_more before true field kept = numbers_bind before (numbers_of as_uint32 field.payload) (each (numbers_of as_uint32) (map (λ field. field.payload) kept))

pub numbers_scan : (number : ℕ) → Scan (numbers_from number)
numbers_scan number = record {
  at_end = λ before. ap (λ x. Some x) (append-nil before);
  more = λ before field fields. numbers_more before (eqb field.number number) field (filter (λ field. eqb field.number number) fields);
}

nothing_more : (o : Option (List (List ℕ))) → (o >>= λ lists. Some ([] ++ flatten lists)) ≡ (o >>= λ lists. Some (flatten lists))
nothing_more None = refl
nothing_more (Some x) = refl

pub numbers_start : (number : ℕ) (fields : List WireField) → numbers_from number [] fields ≡ (each (numbers_of as_uint32) (given number fields) >>= λ lists. Some (flatten lists))
numbers_start number fields = nothing_more (each (numbers_of as_uint32) (given number fields))
