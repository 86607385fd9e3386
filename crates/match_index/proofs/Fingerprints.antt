-- A key that passes tests has their fingerprint.
use Rattle.std.proofs.Common.{◌≡◌, ℕ, true, eqb, List, [], ◌∷◌, map, refl, ap, ◌∙◌, arith}
use Rattle.std.proofs.lemmas.Bool.Decides.{nat_tests}
use Rattle.p4_types.specs.declared.keys.FieldTest.{FieldTest}
use Rattle.p4_types.specs.declared.keys.FieldTest.TheVariants as tests
use Rattle.plane_spec.specs.Entries.{passes, all_pass}
use Rattle.plane_spec.proofs.Names.{both, together, itself}
use Rattle.match_index.specs.declared.cuts.Cut.{Cut}
use Rattle.match_index.specs.declared.cuts.Cut.TheVariants as cuts
use Rattle.match_index.specs.Cuts.{cut_of, value_of, part, with_part, same_cut, has_cuts, name_print_from, key_print_from}

equal : (a b : ℕ) → eqb a b ≡ true → a ≡ b
equal a b h = grind (arith, nat_tests)

-- a value that passes a test has the test's part
part_passes : (test : FieldTest) (key : ℕ) → passes test key ≡ true → part (cut_of test) key ≡ part (cut_of test) (value_of test)
part_passes tests.Any key h = refl
part_passes (tests.Equal value) key h = equal _ _ h
part_passes (tests.Prefix value length width) key h = equal _ _ h
part_passes (tests.Masked value mask) key h = equal _ _ h
part_passes (tests.Between low high) key h = refl

pub key_has_print : (print : ℕ) (tests : List FieldTest) (key : List ℕ) → all_pass tests key ≡ true → key_print_from print (map cut_of tests) key ≡ name_print_from print tests
key_has_print print [] key h = refl
key_has_print print (test ∷ tests) [] h = cc
key_has_print print (test ∷ tests) (value ∷ key) h =
    let p = both _ _ h in
    ap (λ (n : ℕ). key_print_from (with_part print n) (map cut_of tests) key) (part_passes test value p.0)
    ∙ key_has_print (with_part print (part (cut_of test) (value_of test))) tests key p.1

cuts_equal : (a b : Cut) → same_cut a b ≡ true → a ≡ b
cuts_equal cuts.Nothing cuts.Nothing h = refl
cuts_equal cuts.Whole cuts.Whole h = refl
cuts_equal (cuts.First a) (cuts.First b) h = let e = equal a b h in cc
cuts_equal (cuts.Under a) (cuts.Under b) h = let e = equal a b h in cc
cuts_equal a b h = cc

cut_is_same : (a : Cut) → same_cut a a ≡ true
cut_is_same cuts.Nothing = refl
cut_is_same cuts.Whole = refl
cut_is_same (cuts.First a) = itself a
cut_is_same (cuts.Under a) = itself a

pub cuts_are : (cuts : List Cut) (tests : List FieldTest) → has_cuts cuts tests ≡ true → cuts ≡ map cut_of tests
cuts_are [] [] h = refl
cuts_are [] (test ∷ tests) h = cc
cuts_are (cut ∷ cuts) [] h = cc
cuts_are (cut ∷ cuts) (test ∷ tests) h = let p = both _ _ h in let e = cuts_equal cut (cut_of test) p.0 in let f = cuts_are cuts tests p.1 in cc

pub cuts_fit : (tests : List FieldTest) → has_cuts (map cut_of tests) tests ≡ true
cuts_fit [] = refl
cuts_fit (test ∷ tests) = together _ _ (cut_is_same (cut_of test)) (cuts_fit tests)
