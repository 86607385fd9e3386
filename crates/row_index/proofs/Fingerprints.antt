-- A key that passes tests has their fingerprint.
use Rattle.std.proofs.Common.{◌≡◌, ℕ, true, eqb, List, [], ◌∷◌, refl, ap, ◌∙◌, arith}
use Rattle.std.proofs.lemmas.Bool.Decides.{nat_tests}
use Rattle.p4_types.specs.declared.keys.FieldTest.{FieldTest}
use Rattle.p4_types.specs.declared.keys.FieldTest.TheVariants as tests
use Rattle.plane_spec.specs.Entries.{passes, all_pass}
use Rattle.plane_spec.proofs.Names.{both}
use Rattle.row_index.specs.declared.cuts.Cut.{Cut}
use Rattle.row_index.specs.declared.cuts.Cut.TheVariants as cuts
use Rattle.row_index.specs.Cuts.{cut_of, value_of, part, with_part, same_cut, same_cuts, name_print_from, key_print_from}

equal : (a b : ℕ) → eqb a b ≡ true → a ≡ b
equal a b h = grind (arith, nat_tests)

-- a value that passes a test has the test's part
part_passes : (test : FieldTest) (key : ℕ) → passes test key ≡ true → part (cut_of test) key ≡ part (cut_of test) (value_of test)
part_passes tests.Any key h = refl
part_passes (tests.Equal value) key h = equal _ _ h
part_passes (tests.Prefix value length width) key h = equal _ _ h
part_passes (tests.Masked value mask) key h = equal _ _ h
part_passes (tests.Between low high) key h = refl

cuts_equal : (a b : Cut) → same_cut a b ≡ true → a ≡ b
cuts_equal cuts.Nothing cuts.Nothing h = refl
cuts_equal cuts.Whole cuts.Whole h = refl
cuts_equal (cuts.First a) (cuts.First b) h = let e = equal a b h in cc
cuts_equal (cuts.Under a) (cuts.Under b) h = let e = equal a b h in cc
cuts_equal a b h = cc

pub key_has_print : (print : ℕ) (own tests : List FieldTest) (key : List ℕ) → same_cuts own tests ≡ true → all_pass tests key ≡ true → key_print_from print own key ≡ name_print_from print tests
key_has_print print [] [] key same h = refl
key_has_print print [] (test ∷ tests) key same h = cc
key_has_print print (a ∷ own) [] key same h = cc
key_has_print print (a ∷ own) (test ∷ tests) [] same h = cc
key_has_print print (a ∷ own) (test ∷ tests) (value ∷ key) same h =
    let s = both _ _ same in
    let p = both _ _ h in
    ap (λ (cut : Cut). key_print_from (with_part print (part cut value)) own key) (cuts_equal (cut_of a) (cut_of test) s.0)
    ∙ ap (λ (n : ℕ). key_print_from (with_part print n) own key) (part_passes test value p.0)
    ∙ key_has_print (with_part print (part (cut_of test) (value_of test))) own tests key s.1 p.1
