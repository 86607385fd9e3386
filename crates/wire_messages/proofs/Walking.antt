-- A walk over the fields at the front of bytes.
use Rattle.std.proofs.Common.{◌≡◌, ℕ, zero, suc, ◌≤◌, List, [], ◌∷◌, ◌++◌, length, Option, Some, None, IfSome, IfNone, Result, Ok, Err, refl, sym, ap, subst, ◌∙◌, arith}
use Rattle.std.proofs.lemmas.List.{append-nil}
use Rattle.wire_fields.specs.declared.wire.Field.{Field}
use Rattle.wire_fields.specs.declared.wire.WireFault.{WireFault}
use Rattle.wire_fields.specs.Fields.{WireField, Spells}
use Rattle.wire_fields.specs.Field.{field_of, Begins, AreRead}
use Rattle.wire_fields.specs.Reading.{varint_in, tag_at, field_at, fault_of, fault_at}
use Rattle.wire_fields.proofs.Messages.{begins_again, Begins-shorter}
use Rattle.wire_fields.proofs.Shrinking.{field_shorter}
use Rattle.wire_fields.proofs.LawProofs.{rest_of_message}
use Rattle.wire_messages.specs.Walk.{first_and, walked_in, walked}

-- ---- As many steps as there are bytes are enough

none_walked : (steps : ℕ) → walked_in steps [] ≡ []
unfolding walked_in field_at tag_at varint_in
none_walked zero = refl
none_walked (suc steps) = refl

same_behind : (m n : ℕ) (read : Result (WireField × List ℕ) WireFault) → ((first : WireField × List ℕ) → read ≡ Ok first → walked_in m first.1 ≡ walked_in n first.1) → first_and read (walked_in m) ≡ first_and read (walked_in n)
same_behind m n (Ok first) same = ap (λ fields. first.0 ∷ fields) (same first refl)
same_behind m n (Err fault) same = refl

enough : (m n : ℕ) (bytes : List ℕ) → length bytes ≤ m → length bytes ≤ n → walked_in m bytes ≡ walked_in n bytes
unfolding walked_in
enough zero n [] le le_too = sym (none_walked n)
enough m zero [] le le_too = none_walked m
enough zero n (b ∷ bytes) le le_too = absurd (omega arith)
enough m zero (b ∷ bytes) le le_too = absurd (omega arith)
enough (suc m) (suc n) bytes le le_too =
    same_behind m n (field_at bytes) (λ first e. let shorter = field_shorter bytes first e in enough m n first.1 (omega (arith, shorter, le)) (omega (arith, shorter, le_too)))

-- ---- One field more, the end, and a fault

walked_by : (field : WireField) (bytes rest : List ℕ) (steps : ℕ) → field_at bytes ≡ Ok (field, rest) → length bytes ≡ suc steps → length rest ≤ steps → walked bytes ≡ field ∷ walked rest
unfolding walked walked_in
walked_by field bytes rest steps read many le =
    ap (λ n. walked_in n bytes) many ∙ ap (λ r. first_and r (walked_in steps)) read ∙ ap (λ fields. field ∷ fields) (enough steps (length rest) rest le (omega arith))

walked_length : (field : WireField) (bytes rest : List ℕ) (many : ℕ) → length bytes ≡ many → Begins field bytes rest → walked bytes ≡ field ∷ walked rest
walked_length field bytes rest zero e begins = absurd (let shorter = Begins-shorter field bytes rest begins in omega (arith, shorter, e))
walked_length field bytes rest (suc steps) e begins =
    let shorter = Begins-shorter field bytes rest begins in
    walked_by field bytes rest steps (begins_again field bytes rest begins) e (omega (arith, shorter, e))

-- bytes that begin with a field
pub walked_more : (field : WireField) (bytes rest : List ℕ) → Begins field bytes rest → walked bytes ≡ field ∷ walked rest
walked_more field bytes rest begins = walked_length field bytes rest (length bytes) refl begins

pub walked_none : walked [] ≡ []
unfolding walked
walked_none = none_walked 0

no_first : (read : Result (WireField × List ℕ) WireFault) (fault : WireFault) (others : List ℕ → List WireField) → fault_of read ≡ Some fault → first_and read others ≡ []
no_first (Ok first) fault others e = absurd cc
no_first (Err other) fault others e = refl

fault_in : (steps : ℕ) (bytes : List ℕ) (fault : WireFault) → fault_of (field_at bytes) ≡ Some fault → walked_in steps bytes ≡ []
unfolding walked_in
fault_in zero bytes fault e = refl
fault_in (suc steps) bytes fault e = no_first (field_at bytes) fault (walked_in steps) e

-- bytes at whose front there is a fault
pub walked_fault : (bytes : List ℕ) (fault : WireFault) → fault_at bytes ≡ Some fault → walked bytes ≡ []
unfolding walked
walked_fault [] fault e = absurd cc
walked_fault (b ∷ bytes) fault e = fault_in (length (b ∷ bytes)) (b ∷ bytes) fault e

-- what a step of the walk gives
pub some_more : (next : Option Field) (bytes rest : List ℕ) → IfSome next (λ field. Begins (field_of field) bytes rest) → IfSome next (λ field. walked bytes ≡ field_of field ∷ walked rest)
some_more (Some field) bytes rest begins = walked_more (field_of field) bytes rest begins
some_more None bytes rest begins = tt

pub none_more : (next : Option Field) (bytes : List ℕ) → (next ≡ None → bytes ≡ []) → IfNone next (walked bytes ≡ [])
none_more (Some field) bytes end = tt
none_more None bytes end = ap walked (end refl) ∙ walked_none

-- ---- A message whose front was read

-- What is left decides of the whole: where it is a message so is the whole, and where the whole is one so is it.
pub record Decides (bytes left : List ℕ) : Type 0 where
  pub whole : Spells (walked left) left → Spells (walked bytes) bytes
  pub rest : (fields : List WireField) → Spells fields bytes → (others : List WireField) × Spells others left

pub decides_itself : (bytes : List ℕ) → Decides bytes bytes
decides_itself bytes = record { whole = λ spells. spells; rest = λ fields spells. (fields, spells) }

pub decides_more : (bytes left : List ℕ) (field : WireField) (rest : List ℕ) → Decides bytes left → Begins field left rest → Decides bytes rest
decides_more bytes left field rest decides begins = record {
  whole = λ spells. decides.whole (subst (λ (fields : List WireField). Spells fields left) (sym (walked_more field left rest begins)) (begins.front, rest, begins.spells, spells, begins.bytes_are));
  rest = λ fields spells.
      let all = decides.rest fields spells in
      let one : AreRead (field ∷ []) left rest = record { front = begins.front ++ []; spells = (begins.front, [], begins.spells, refl, refl); bytes_are = rw (append-nil begins.front) begins.bytes_are } in
      let others = rest_of_message (field ∷ []) all.0 left rest one all.1 in
      (others.0, others.2);
}

pub decides_end : (bytes left : List ℕ) → left ≡ [] → Decides bytes left → Spells (walked bytes) bytes
decides_end bytes left e decides = decides.whole (subst (λ (b : List ℕ). Spells (walked b) b) (sym e) (rw walked_none refl))
