-- Fields by their headers' types, and what stands in two lists.
use Rattle.std.proofs.Common.{◌≡◌, ℕ, Bool, List, Option, Some, None, refl, ◌++◌, option_map, option_and_then}
use Rattle.std.specs.List.{find}
use Rattle.std.specs.Option.{option_or}
use Rattle.std.proofs.lemmas.List.Folds.{find-append}
use Rattle.bm_records.specs.declared.raw.Header.{Header}
use Rattle.bm_records.specs.declared.raw.HeaderType.{HeaderType}
use Rattle.bm_records.specs.declared.raw.RawProgram.{RawProgram}
use Rattle.bm_rules.specs.Fields.{header_named, fields_in, type_of, fields_of, field_among, field_by_names}

in_type : (type : Option HeaderType) (field : List ℕ) → field_among field (fields_in type) ≡ option_and_then (λ t. field_among field t.fields) type
in_type None field = refl
in_type (Some type) field = refl

by_header : (raw : RawProgram) (found : Option Header) (field : List ℕ) → option_and_then (field_among field) (option_map (fields_of raw) found) ≡ option_and_then (λ t. field_among field t.fields) (option_and_then (type_of raw) found)
by_header raw None field = refl
by_header raw (Some header) field = in_type (type_of raw header) field

-- the field of the names of a header and of itself is one of the header's type
pub field_by_type : (raw : RawProgram) (header field : List ℕ) → field_by_names raw header field ≡ option_and_then (λ t. field_among field t.fields) (option_and_then (type_of raw) (header_named raw header))
field_by_type raw header field = by_header raw (header_named raw header) field

-- what is found in two lists
pub find_in_both : {X : Type 0} (p : X → Bool) (xs ys : List X) → find p (xs ++ ys) ≡ option_or (find p xs) (find p ys)
find_in_both p xs ys = find-append p xs ys
