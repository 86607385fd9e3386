-- What tests look at of the values of a key, and fingerprints of that.
use Rattle.std.specs.Prelude.{ℕ, ◌+◌, ◌-◌, ◌*◌, ◌/◌, ◌%◌, ◌^◌, ◌==◌, ◌&&◌, bit_and, Bool, true, false, List, [], ◌∷◌}
use Rattle.p4_types.specs.declared.keys.FieldTest.{FieldTest}
use Rattle.p4_types.specs.declared.keys.FieldTest.TheVariants as tests
use Rattle.row_index.specs.declared.cuts.Cut.{Cut}
use Rattle.row_index.specs.declared.cuts.Cut.TheVariants as cuts

-- which part of a field's value the test compares
abbrev pub cut_of : FieldTest → Cut
cut_of tests.Any = cuts.Nothing
cut_of (tests.Equal value) = cuts.Whole
cut_of (tests.Prefix value length width) = cuts.First (width - length)
cut_of (tests.Masked value mask) = cuts.Under mask
cut_of (tests.Between low high) = cuts.Nothing

-- with what value it compares
abbrev pub value_of : FieldTest → ℕ
value_of tests.Any = 0
value_of (tests.Equal value) = value
value_of (tests.Prefix value length width) = value
value_of (tests.Masked value mask) = value
value_of (tests.Between low high) = 0

-- that part of a value
abbrev pub part : Cut → ℕ → ℕ
part cuts.Nothing value = 0
part cuts.Whole value = value
part (cuts.First dropped) value = value / 2 ^ dropped
part (cuts.Under mask) value = bit_and value mask

-- two cuts are the same
abbrev pub same_cut : Cut → Cut → Bool
same_cut cuts.Nothing cuts.Nothing = true
same_cut cuts.Whole cuts.Whole = true
same_cut (cuts.First a) (cuts.First b) = a == b
same_cut (cuts.Under a) (cuts.Under b) = a == b
same_cut _ _ = false

-- the cuts of two lists of tests are the same, field by field
abbrev pub same_cuts : List FieldTest → List FieldTest → Bool
same_cuts [] [] = true
same_cuts [] (b ∷ bs) = false
same_cuts (a ∷ others) [] = false
same_cuts (a ∷ others) (b ∷ bs) = same_cut (cut_of a) (cut_of b) && same_cuts others bs

-- a fingerprint with one word more
unfoldable pub with_word : ℕ → ℕ → ℕ
with_word print word = (print * 11400714819323198485 % 2 ^ 64 + word) % 2 ^ 64

-- a fingerprint with one part more
abbrev pub with_part : ℕ → ℕ → ℕ
with_part print part = with_word (with_word print (part % 2 ^ 64)) (part / 2 ^ 64)

-- the upper half of a fingerprint, once its bits are mixed
unfoldable pub mixed : ℕ → ℕ
mixed print = print * 11400714819323198485 % 2 ^ 64 / 2 ^ 32

abbrev pub name_print_from : ℕ → List FieldTest → ℕ
name_print_from print [] = mixed print
name_print_from print (test ∷ tests) = name_print_from (with_part print (part (cut_of test) (value_of test))) tests

abbrev pub key_print_from : ℕ → List FieldTest → List ℕ → ℕ
key_print_from print [] key = mixed print
key_print_from print (test ∷ tests) [] = mixed print
key_print_from print (test ∷ tests) (value ∷ key) = key_print_from (with_part print (part (cut_of test) value)) tests key

-- the bucket of a fingerprint of 32 bits
unfoldable pub bucket_of : ℕ → ℕ → ℕ
bucket_of count print = print * count / 2 ^ 32
