-- Fields stand among those of their headers, and these among those of the program.
use Rattle.std.proofs.Common.{◌≡◌, ℕ, zero, suc, ◌+◌, ◌<◌, ◌≤◌, refl, ap, List, [], ◌∷◌, length, take, Option, Some, None, option_map, option_and_then, unwrap_or, sum_by, arith}
use Rattle.std.specs.List.{position, slice_get}
use Rattle.std.specs.Option.{MatchOption}
use Rattle.std.specs.Str.{bytes_eq}
use Rattle.std.proofs.lemmas.List.Sums.{sum_by-cons}
use Rattle.name_index.proofs.Firsts.{at_place}
use Rattle.bm_records.specs.declared.raw.TypeField.{TypeField}
use Rattle.bm_records.specs.declared.raw.RawProgram.{RawProgram}
use Rattle.bm_rules.specs.Names.{named}
use Rattle.bm_rules.specs.Fields.{header_named, fields_of, field_among, field_by_names, field_bits, bits_of_names}
use Rattle.link_spec.specs.Fields.{header_at, or_none, fields_named, fields_before}

-- what stands at a place, and before it, is within the whole sum
within : {X : Type 0} (f : X → ℕ) (xs : List X) (i : ℕ) (x : X) → slice_get xs i ≡ Some x → sum_by f (take i xs) + f x ≤ sum_by f (take (length xs) xs)
within f [] i x e = absurd (let c : ⊥ = cc in c)
within f (y ∷ ys) zero x e = grind (arith, sum_by-cons)
within f (y ∷ ys) (suc i) x e = grind (arith, sum_by-cons, within f ys i x e)

behind : {X : Type 0} (fields : X → List TypeField) (xs : List X) (r : Option ℕ) (found : Option X) (n : ℕ) → MatchOption r (found ≡ None) (λ i. slice_get xs i ≡ found) → n < length (or_none (option_map fields found))
    → sum_by (λ x. length (fields x)) (take (unwrap_or r 0) xs) + n < sum_by (λ x. length (fields x)) (take (length xs) xs)
behind fields xs r None n m l = absurd (let c : ⊥ = omega arith in c)
behind fields xs None (Some x) n m l = absurd (let c : ⊥ = cc in c)
behind fields xs (Some i) (Some x) n m l = let h : _ = within (λ x. length (fields x)) xs i x m in omega arith

-- a field of the header of a name stands among those of the program
pub field_inside : (raw : RawProgram) (header : List ℕ) (n : ℕ) → n < length (fields_named raw header) → fields_before raw (header_at raw header) + n < fields_before raw (length raw.headers)
field_inside raw header n l =
    behind (fields_of raw) raw.headers (position (λ x. bytes_eq x.name header) raw.headers) (header_named raw header) n (at_place (λ x. bytes_eq x.name header) raw.headers _ refl) l

by_fields : (found : Option (List TypeField)) (field : List ℕ) → option_and_then (field_among field) found ≡ named (λ x. x.name) field (or_none found)
by_fields None field = refl
by_fields (Some fields) field = refl

-- the field of the names of its header and of itself
pub field_named : (raw : RawProgram) (header field : List ℕ) → field_by_names raw header field ≡ named (λ x. x.name) field (fields_named raw header)
field_named raw header field = by_fields (option_map (fields_of raw) (header_named raw header)) field

-- its bits
pub bits_named : (raw : RawProgram) (header field : List ℕ) → bits_of_names raw header field ≡ field_bits (named (λ x. x.name) field (fields_named raw header))
bits_named raw header field = ap field_bits (field_named raw header field)
