-- The ids that are packed in a configuration, read one after another.
use Rattle.std.proofs.Common.{◌≡◌, ℕ, zero, suc, ◌<◌, ◌≤◌, true, false, List, [], ◌∷◌, ◌++◌, length, Option, Some, None, refl, sym, subst, arith, nat_le, length-append}
use Rattle.std.specs.Result.{result_ok}
use Rattle.std.proofs.lemmas.Bool.Decides.{nat_tests}
use Rattle.wire_fields.specs.Reading.{varint_at, varint_in}
use Rattle.list_types.specs.Options.{◌>>=◌}
use Rattle.wire_messages.specs.Message.{packed_in}
use Rattle.wire_messages.specs.Numbers.{as_uint32}
use Rattle.wire_messages.specs.Scans.{packed_from}
use Rattle.wire_messages.proofs.Packed.{Packed}
use Rattle.p4v1_read.specs.RoleConfigs.{at_most_128, ids_in, OneIdIsRead}

clash : (values : List ℕ) → None ≡ Some values → ⊥
clash values e = cc

same_values : (values others : List ℕ) → Some values ≡ Some others → values ≡ others
same_values values others e = cc

first_and_rest : (first : ℕ) (rest : Option (List ℕ)) (values : List ℕ) → (rest >>= λ others. Some (first ∷ others)) ≡ Some values → 0 < length values
first_and_rest first None values e = absurd (clash _ e)
first_and_rest first (Some others) values e = subst (λ (l : List ℕ). 0 < length l) (same_values (first ∷ others) values e) (omega arith)

from_number : (number : Option ℕ) (steps : ℕ) (left values : List ℕ) → (number >>= λ first. packed_in as_uint32 steps left >>= λ others. Some (first ∷ others)) ≡ Some values → 0 < length values
from_number None steps left values e = absurd (clash _ e)
from_number (Some first) steps left values e = first_and_rest first (packed_in as_uint32 steps left) values e

from_varint : (read : Option (ℕ × List ℕ)) (steps : ℕ) (values : List ℕ) → (read >>= λ x. as_uint32 x.0 >>= λ first. packed_in as_uint32 steps x.1 >>= λ others. Some (first ∷ others)) ≡ Some values → 0 < length values
from_varint None steps values e = absurd (clash _ e)
from_varint (Some x) steps values e = from_number (as_uint32 x.0) steps x.1 values e

-- bytes that are left hold a number, if they are read
not_empty : (steps : ℕ) (left values : List ℕ) → 0 < length left → packed_in as_uint32 steps left ≡ Some values → 0 < length values
unfolding packed_in
not_empty steps [] values some e = absurd (omega arith)
not_empty zero (b ∷ bytes) values some e = absurd (clash _ e)
not_empty (suc steps) (b ∷ bytes) values some e = from_varint (result_ok (varint_at (b ∷ bytes))) steps values e

refused_whole : (o : Option (List ℕ)) → (o >>= λ values. Some ([] ++ values)) ≡ None → (o >>= at_most_128) ≡ None
refused_whole None e = refl
refused_whole (Some values) e = absurd (clash _ (sym e))

pub ids_refused : (value : List ℕ) → packed_from [] value ≡ None → ids_in value ≡ None
ids_refused value e = refused_whole (packed_in as_uint32 (length value) value) e

read_whole : (o : Option (List ℕ)) (found : List ℕ) → (o >>= λ values. Some ([] ++ values)) ≡ Some found → length found ≤ 128 → (o >>= at_most_128) ≡ Some found
read_whole None found e few = absurd (clash _ e)
read_whole (Some values) found e few = let same = same_values values found e in subst (λ (l : List ℕ). at_most_128 l ≡ Some found) (sym same) (grind (arith, nat_tests))

pub ids_read : (value found : List ℕ) → packed_from [] value ≡ Some found → length found ≤ 128 → ids_in value ≡ Some found
ids_read value found e few = read_whole (packed_in as_uint32 (length value) value) found e few

too_many : (values : List ℕ) → 128 < length values → at_most_128 values ≡ None
too_many values many = grind (arith, nat_tests)

-- there are more than were found, which are 128
more_than : (found : List ℕ) (o p : Option (List ℕ)) → length found ≡ 128 → ((values : List ℕ) → o ≡ Some values → 0 < length values) → (o >>= λ values. Some (found ++ values)) ≡ (p >>= λ values. Some ([] ++ values)) → (p >>= at_most_128) ≡ None
more_than found o None full some e = refl
more_than found None (Some values) full some e = absurd (clash _ e)
more_than found (Some others) (Some values) full some e =
    let same = same_values (found ++ others) values e in
    let more = some others refl in
    subst (λ (l : List ℕ). at_most_128 l ≡ None) same (too_many (found ++ others) (omega (arith, length-append found others)))

pub ids_too_many : (value left found : List ℕ) → Packed left found (packed_from [] value) → length found ≡ 128 → 0 < length left → ids_in value ≡ None
ids_too_many value left found packed full some =
    more_than found (packed_in as_uint32 packed.steps left) (packed_in as_uint32 (length value) value) full (λ values e. not_empty packed.steps left values some e) packed.goes_on

pub full_is : (found : List ℕ) → length found ≤ 128 → nat_le 128 (length found) ≡ true → length found ≡ 128
full_is found few full = grind (arith, nat_tests)

pub more_are_few : (found : List ℕ) (id : ℕ) → nat_le 128 (length found) ≡ false → length (found ++ id ∷ []) ≤ 128
more_are_few found id free = let room : length found < 128 = grind (arith, nat_tests) in omega (arith, length-append found (id ∷ []))

-- one id, computed
pub one_id_is_read : OneIdIsRead
unfolding packed_in varint_in
one_id_is_read = refl
