-- The fields that are computed are those that the bytes spell.
use Rattle.std.proofs.Common.{◌≡◌, ℕ, zero, suc, ◌≤◌, List, [], ◌∷◌, length, Some, None, Option, Result, Ok, Err, refl, subst, arith}
use Rattle.std.specs.Prelude.{IfOk, OnErr}
use Rattle.std.specs.Result.{result_ok}
use Rattle.wire_fields.specs.declared.wire.WireFault.{WireFault}
use Rattle.wire_fields.specs.Fields.{WireField, Spells}
use Rattle.wire_fields.specs.Field.{Begins}
use Rattle.wire_fields.specs.Reading.{field_at}
use Rattle.wire_fields.proofs.Steps.{IsBytes, IsBytes-after, IsBytes-from_All}
use Rattle.wire_fields.proofs.Messages.{has_field, begins_again, Begins-shorter}
use Rattle.wire_messages.specs.Answers.{Reads}
use Rattle.list_types.specs.Options.{◌>>=◌}
use Rattle.wire_messages.specs.declared.errors.Unreadable.{Unreadable}
use Rattle.p4v1_read.specs.MessageFields.{fields_in, fields_of, FieldsAreSpelled}

-- a step that gave something
bind_some : {A B : Type 0} (r : Option A) (f : A → Option B) (y : B) → (r >>= f) ≡ Some y → (x : A) × (r ≡ Some x) × (f x ≡ Some y)
bind_some (Some x) f y e = (x, refl, e)
bind_some None f y e = absurd cc

ok_some : {A : Type 0} (r : Result A WireFault) (x : A) → result_ok r ≡ Some x → r ≡ Ok x
ok_some (Ok y) x e = cc
ok_some (Err fault) x e = absurd cc

some_is : {A : Type 0} (x y : A) → Some x ≡ Some y → x ≡ y
some_is x y e = cc

first_of : (field : WireField) (fields : List WireField) (bytes : List ℕ) → (spells : Spells (field ∷ fields) bytes) → Begins field bytes spells.1
first_of field fields bytes spells = record { front = spells.0; spells = spells.2; bytes_are = spells.4 }

-- what is spelled is computed
pub computed : (fields : List WireField) (steps : ℕ) (bytes : List ℕ) → length bytes ≤ steps → Spells fields bytes → fields_in steps bytes ≡ Some fields
unfolding fields_in
computed [] steps [] le spells = refl
computed [] steps (b ∷ bytes) le spells = absurd cc
computed (field ∷ fields) steps [] le spells = absurd (omega (arith, Begins-shorter field [] spells.1 (first_of field fields [] spells)))
computed (field ∷ fields) zero (b ∷ bytes) le spells = absurd (omega arith)
computed (field ∷ fields) (suc steps) (b ∷ bytes) le spells =
    let begins = first_of field fields (b ∷ bytes) spells in
    let shorter = Begins-shorter field (b ∷ bytes) spells.1 begins in
    let others = computed fields steps spells.1 (omega arith) spells.3 in
    rw (begins_again field (b ∷ bytes) spells.1 begins) (rw others refl)

-- what is computed is spelled
pub spelled : (steps : ℕ) (bytes : List ℕ) (fields : List WireField) → IsBytes bytes → fields_in steps bytes ≡ Some fields → Spells fields bytes
unfolding fields_in
spelled zero [] fields fits e = subst (λ (x : List WireField). Spells x []) (some_is [] fields e) refl
spelled (suc steps) [] fields fits e = subst (λ (x : List WireField). Spells x []) (some_is [] fields e) refl
spelled zero (b ∷ bytes) fields fits e = absurd cc
spelled (suc steps) (b ∷ bytes) fields fits e =
    let one = bind_some (result_ok (field_at (b ∷ bytes))) (λ first. fields_in steps first.1 >>= λ others. Some (first.0 ∷ others)) fields e in
    let two = bind_some (fields_in steps one.0.1) (λ others. Some (one.0.0 ∷ others)) fields one.2 in
    let begins = has_field (b ∷ bytes) one.0.0 one.0.1 fits (ok_some (field_at (b ∷ bytes)) one.0 one.1) in
    let rest = spelled steps one.0.1 two.0 (IsBytes-after begins.front one.0.1 (subst IsBytes begins.bytes_are fits)) two.1 in
    subst (λ (x : List WireField). Spells x (b ∷ bytes)) (some_is (one.0.0 ∷ two.0) fields two.2) (begins.front, one.0.1, begins.spells, rest, begins.bytes_are)

pub fields_are_spelled : FieldsAreSpelled
unfolding fields_of
fields_are_spelled bytes fields fits = (spelled (length bytes) bytes fields (IsBytes-from_All bytes fits), computed fields (length bytes) bytes (omega arith))

none_read : (bytes : List ℕ) → IsBytes bytes → ((fields : List WireField) → Spells fields bytes → ⊥) → (read : Option (List WireField)) → fields_of bytes ≡ read → fields_of bytes ≡ None
unfolding fields_of
none_read bytes fits none None e = e
none_read bytes fits none (Some fields) e = absurd (none fields (spelled (length bytes) bytes fields fits e))

-- a reading of all fields
pub read_fields : (bytes : List ℕ) (answer : Result (List WireField) Unreadable) → IsBytes bytes → IfOk answer (λ fields. Spells fields bytes) → OnErr answer ((fields : List WireField) → Spells fields bytes → ⊥)
    → Reads (λ fields. fields) answer (fields_of bytes)
unfolding fields_of
read_fields bytes (Ok fields) fits ok none = computed fields (length bytes) bytes (omega arith) ok
read_fields bytes (Err cause) fits ok none = none_read bytes fits none (fields_of bytes) refl
