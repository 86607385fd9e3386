-- Two names are the same just where they are equal.
use Rattle.std.proofs.Common.{◌≡◌, ℕ, ℤ, Bool, true, false, ◌&&◌, eqb, List, [], ◌∷◌, refl, arith}
use Rattle.std.proofs.lemmas.Bool.Decides.{nat_tests, Decides-int_eq}
use Rattle.p4_types.specs.declared.table.EntryName.{EntryName}
use Rattle.p4_types.specs.declared.keys.FieldTest.{FieldTest}
use Rattle.p4_types.specs.declared.keys.FieldTest.TheVariants as tests
use Rattle.plane_spec.specs.Entries.{same_test, same_tests, same_name}

pub both : (a b : Bool) → (a && b) ≡ true → (a ≡ true) × (b ≡ true)
both true b h = (refl, h)
both false b h = cc

pub together : (a b : Bool) → a ≡ true → b ≡ true → (a && b) ≡ true
together a b h k = rw h k

equal : (a b : ℕ) → eqb a b ≡ true → a ≡ b
equal a b h = grind (arith, nat_tests)

pub itself : (a : ℕ) → eqb a a ≡ true
itself a = grind (arith, nat_tests)

pub tests_equal : (a b : FieldTest) → same_test a b ≡ true → a ≡ b
tests_equal tests.Any tests.Any h = refl
tests_equal (tests.Equal a) (tests.Equal b) h = let e = equal a b h in cc
tests_equal (tests.Prefix a l w) (tests.Prefix b m v) h =
    let p = both _ _ h in
    let q = both _ _ p.0 in
    let e = equal a b q.0 in
    let f = equal l m q.1 in
    let g = equal w v p.1 in
    cc
tests_equal (tests.Masked a m) (tests.Masked b n) h = let p = both _ _ h in let e = equal a b p.0 in let f = equal m n p.1 in cc
tests_equal (tests.Between a m) (tests.Between b n) h = let p = both _ _ h in let e = equal a b p.0 in let f = equal m n p.1 in cc
tests_equal a b h = cc

pub test_is_same : (a : FieldTest) → same_test a a ≡ true
test_is_same tests.Any = refl
test_is_same (tests.Equal a) = itself a
test_is_same (tests.Prefix a l w) = together _ _ (together _ _ (itself a) (itself l)) (itself w)
test_is_same (tests.Masked a m) = together _ _ (itself a) (itself m)
test_is_same (tests.Between a m) = together _ _ (itself a) (itself m)

all_equal : (xs ys : List FieldTest) → same_tests xs ys ≡ true → xs ≡ ys
all_equal [] [] h = refl
all_equal [] (b ∷ ys) h = cc
all_equal (a ∷ xs) [] h = cc
all_equal (a ∷ xs) (b ∷ ys) h = let p = both _ _ h in let e = tests_equal a b p.0 in let f = all_equal xs ys p.1 in cc

all_same : (xs : List FieldTest) → same_tests xs xs ≡ true
all_same [] = refl
all_same (a ∷ xs) = together _ _ (test_is_same a) (all_same xs)

-- the names of one another's parts
named : (t u : ℕ) (xs ys : List FieldTest) (p q : ℤ) → t ≡ u → xs ≡ ys → p ≡ q → let a : EntryName = record { table = t; tests = xs; priority = p } in let b : EntryName = record { table = u; tests = ys; priority = q } in a ≡ b
named t u xs ys p q d e f = cc

pub names_equal : (a b : EntryName) → same_name a b ≡ true → a ≡ b
names_equal a b h =
    let p = both _ _ h in
    let q = both _ _ p.0 in
    named a.table b.table a.tests b.tests a.priority b.priority (equal a.table b.table q.0) (all_equal a.tests b.tests p.1) ((Decides-int_eq a.priority b.priority).0 q.1)

pub name_is_same : (a : EntryName) → same_name a a ≡ true
name_is_same a = together _ _ (together _ _ (itself a.table) ((Decides-int_eq a.priority a.priority).1 refl)) (all_same a.tests)
