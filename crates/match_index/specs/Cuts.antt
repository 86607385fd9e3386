-- What tests look at of the values of a key, and fingerprints of that.
use Rattle.std.specs.Prelude.{ℕ, ◌+◌, ◌-◌, ◌*◌, ◌/◌, ◌%◌, ◌^◌, ◌==◌, ◌&&◌, bit_and, Bool, true, false, List, [], ◌∷◌}
use Rattle.p4_types.specs.declared.keys.FieldTest.{FieldTest}
use Rattle.p4_types.specs.declared.keys.FieldTest.TheVariants as tests
use Rattle.match_index.specs.declared.cuts.Cut.{Cut}
use Rattle.match_index.specs.declared.cuts.Cut.TheVariants as cuts

-- which part of a field's value the test compares
abbrev pub cut_of : FieldTest → Cut
cut_of tests.Any = cuts.Nothing
cut_of (tests.Equal value) = cuts.Whole
cut_of (tests.Prefix value length width) = cuts.First (width - length)
cut_of (tests.Masked value mask) = cuts.Under mask
cut_of (tests.Between low high) = cuts.Nothing

-- with what value it compares
abbrev pub value_of : FieldTest → ℕ
value_of tests.Any = 0
value_of (tests.Equal value) = value
value_of (tests.Prefix value length width) = value
value_of (tests.Masked value mask) = value
value_of (tests.Between low high) = 0

-- that part of a value
abbrev pub part : Cut → ℕ → ℕ
part cuts.Nothing value = 0
part cuts.Whole value = value
part (cuts.First dropped) value = value / 2 ^ dropped
part (cuts.Under mask) value = bit_and value mask

-- two cuts are the same
abbrev pub same_cut : Cut → Cut → Bool
same_cut cuts.Nothing cuts.Nothing = true
same_cut cuts.Whole cuts.Whole = true
same_cut (cuts.First a) (cuts.First b) = a == b
same_cut (cuts.Under a) (cuts.Under b) = a == b
same_cut _ _ = false

-- these are the cuts of the tests
abbrev pub has_cuts : List Cut → List FieldTest → Bool
has_cuts [] [] = true
has_cuts [] (test ∷ tests) = false
has_cuts (cut ∷ cuts) [] = false
has_cuts (cut ∷ cuts) (test ∷ tests) = same_cut cut (cut_of test) && has_cuts cuts tests

-- a fingerprint with one word more
unfoldable pub with_word : ℕ → ℕ → ℕ
with_word print word = (print * 11400714819323198485 % 2 ^ 64 + word) % 2 ^ 64

-- a fingerprint with one part more
abbrev pub with_part : ℕ → ℕ → ℕ
with_part print part = with_word (with_word print (part % 2 ^ 64)) (part / 2 ^ 64)

abbrev pub name_print_from : ℕ → List FieldTest → ℕ
name_print_from print [] = print
name_print_from print (test ∷ tests) = name_print_from (with_part print (part (cut_of test) (value_of test))) tests

abbrev pub key_print_from : ℕ → List Cut → List ℕ → ℕ
key_print_from print [] key = print
key_print_from print (cut ∷ cuts) [] = print
key_print_from print (cut ∷ cuts) (value ∷ key) = key_print_from (with_part print (part cut value)) cuts key

-- the fingerprint of what tests compare with
abbrev pub name_print : List FieldTest → ℕ
name_print tests = name_print_from 0 tests

-- the fingerprint of a key, of the parts that the cuts say
abbrev pub key_print : List Cut → List ℕ → ℕ
key_print cuts key = key_print_from 0 cuts key
