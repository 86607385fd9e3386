-- Whether expressions fit, by tests, and programs that have more.
use Rattle.std.proofs.Common.{ℕ, ◌^◌, ◌<◌, ◌≤◌, Bool, true, false, refl, arith}
use Rattle.std.proofs.lemmas.Bool.{ltb-true, lt-ltb, leb-true, le-leb}
use Rattle.std.specs.Prelude.{◌&&◌, ◌↔◌, IsTrue, nat_lt}
use Rattle.bm_expr.specs.declared.store.FieldPlace.{FieldPlace}
use Rattle.bm_expr.specs.declared.fitting.Counts.{Counts}
use Rattle.bm_expr.specs.Trees.{Number, Truth, Field, Literal, Datum, Add, Subtract, Multiply, ShiftLeft, ShiftRight, BitAnd, BitOr, BitXor, BitNot, Choose, OfTruth, Constant, Equal, NotEqual, Less, LessOrEqual, Greater, GreaterOrEqual, And, Or, Not, Select, IsValid, OfNumber}
use Rattle.bm_expr.specs.Fits.{FieldFits, NumberFits, TruthFits, field_fits, number_fits, truth_fits, HasAtMost, FitsMore, TruthFitsMore}

both_ways : {A B : Type 0} {a b : Bool} → IsTrue a ↔ A → IsTrue b ↔ B → IsTrue (a && b) ↔ (A × B)
both_ways {a = true} {b = b} f g = (λ h. (f.0 refl, g.0 h), λ p. g.1 p.1)
both_ways {a = false} {b = b} f g = (λ h. absurd cc, λ p. absurd (let e : IsTrue false = f.1 p.0 in cc))

three_ways : {A B C : Type 0} {a b c : Bool} → IsTrue a ↔ A → IsTrue b ↔ B → IsTrue c ↔ C → IsTrue (a && b && c) ↔ (A × B × C)
three_ways f g h = let whole = both_ways (both_ways f g) h in (λ e. let p = whole.0 e in (p.0.0, p.0.1, p.1), λ p. whole.1 ((p.0, p.1), p.2))

lt_decided : (a b : ℕ) → IsTrue (nat_lt a b) ↔ (a < b)
lt_decided a b = (ltb-true a b, lt-ltb a b)

field_decided : (counts : Counts) (place : FieldPlace) → IsTrue (field_fits counts place) ↔ FieldFits counts place
field_decided counts place =
    let whole = three_ways (lt_decided place.index counts.fields) (lt_decided place.header counts.headers) (leb-true place.width 128, le-leb place.width 128) in (
      λ e. let p = whole.0 e in record { field = p.0; header = p.1; width = p.2 },
      λ f. whole.1 (f.field, f.header, f.width),
    )

mutual
  pub number_decided : (counts : Counts) (number : Number) → IsTrue (number_fits counts number) ↔ NumberFits counts number
  number_decided counts (Field place) = field_decided counts place
  number_decided counts (Literal n) = lt_decided n (2 ^ 128)
  number_decided counts (Datum i) = lt_decided i counts.args
  number_decided counts (Add x y) = both_ways (number_decided counts x) (number_decided counts y)
  number_decided counts (Subtract x y) = both_ways (number_decided counts x) (number_decided counts y)
  number_decided counts (Multiply x y) = both_ways (number_decided counts x) (number_decided counts y)
  number_decided counts (ShiftLeft x y) = both_ways (number_decided counts x) (number_decided counts y)
  number_decided counts (ShiftRight x y) = both_ways (number_decided counts x) (number_decided counts y)
  number_decided counts (BitAnd x y) = both_ways (number_decided counts x) (number_decided counts y)
  number_decided counts (BitOr x y) = both_ways (number_decided counts x) (number_decided counts y)
  number_decided counts (BitXor x y) = both_ways (number_decided counts x) (number_decided counts y)
  number_decided counts (BitNot x) = number_decided counts x
  number_decided counts (Choose c x y) = three_ways (truth_decided counts c) (number_decided counts x) (number_decided counts y)
  number_decided counts (OfTruth t) = truth_decided counts t

  pub truth_decided : (counts : Counts) (truth : Truth) → IsTrue (truth_fits counts truth) ↔ TruthFits counts truth
  truth_decided counts (Constant b) = (λ _. tt, λ _. refl)
  truth_decided counts (Equal x y) = both_ways (number_decided counts x) (number_decided counts y)
  truth_decided counts (NotEqual x y) = both_ways (number_decided counts x) (number_decided counts y)
  truth_decided counts (Less x y) = both_ways (number_decided counts x) (number_decided counts y)
  truth_decided counts (LessOrEqual x y) = both_ways (number_decided counts x) (number_decided counts y)
  truth_decided counts (Greater x y) = both_ways (number_decided counts x) (number_decided counts y)
  truth_decided counts (GreaterOrEqual x y) = both_ways (number_decided counts x) (number_decided counts y)
  truth_decided counts (And s t) = both_ways (truth_decided counts s) (truth_decided counts t)
  truth_decided counts (Or s t) = both_ways (truth_decided counts s) (truth_decided counts t)
  truth_decided counts (Not t) = truth_decided counts t
  truth_decided counts (Select c s t) = three_ways (truth_decided counts c) (truth_decided counts s) (truth_decided counts t)
  truth_decided counts (IsValid header) = lt_decided header counts.headers
  truth_decided counts (OfNumber x) = number_decided counts x

field_more : (few more : Counts) → HasAtMost few more → (place : FieldPlace) → FieldFits few place → FieldFits more place
field_more few more most place fits = record {
  field = let h : few.fields ≤ more.fields = most.fields in let i : place.index < few.fields = fits.field in omega (arith, h, i);
  header = let h : few.headers ≤ more.headers = most.headers in let i : place.header < few.headers = fits.header in omega (arith, h, i);
  width = fits.width;
}

mutual
  pub fits_more : FitsMore
  fits_more few more most (Field place) fits = field_more few more most place fits
  fits_more few more most (Literal n) fits = fits
  fits_more few more most (Datum i) fits = let h : few.args ≤ more.args = most.args in omega (arith, h, fits)
  fits_more few more most (Add x y) fits = (fits_more few more most x fits.0, fits_more few more most y fits.1)
  fits_more few more most (Subtract x y) fits = (fits_more few more most x fits.0, fits_more few more most y fits.1)
  fits_more few more most (Multiply x y) fits = (fits_more few more most x fits.0, fits_more few more most y fits.1)
  fits_more few more most (ShiftLeft x y) fits = (fits_more few more most x fits.0, fits_more few more most y fits.1)
  fits_more few more most (ShiftRight x y) fits = (fits_more few more most x fits.0, fits_more few more most y fits.1)
  fits_more few more most (BitAnd x y) fits = (fits_more few more most x fits.0, fits_more few more most y fits.1)
  fits_more few more most (BitOr x y) fits = (fits_more few more most x fits.0, fits_more few more most y fits.1)
  fits_more few more most (BitXor x y) fits = (fits_more few more most x fits.0, fits_more few more most y fits.1)
  fits_more few more most (BitNot x) fits = fits_more few more most x fits
  fits_more few more most (Choose c x y) fits = (truth_fits_more few more most c fits.0, fits_more few more most x fits.1, fits_more few more most y fits.2)
  fits_more few more most (OfTruth t) fits = truth_fits_more few more most t fits

  pub truth_fits_more : TruthFitsMore
  truth_fits_more few more most (Constant b) fits = tt
  truth_fits_more few more most (Equal x y) fits = (fits_more few more most x fits.0, fits_more few more most y fits.1)
  truth_fits_more few more most (NotEqual x y) fits = (fits_more few more most x fits.0, fits_more few more most y fits.1)
  truth_fits_more few more most (Less x y) fits = (fits_more few more most x fits.0, fits_more few more most y fits.1)
  truth_fits_more few more most (LessOrEqual x y) fits = (fits_more few more most x fits.0, fits_more few more most y fits.1)
  truth_fits_more few more most (Greater x y) fits = (fits_more few more most x fits.0, fits_more few more most y fits.1)
  truth_fits_more few more most (GreaterOrEqual x y) fits = (fits_more few more most x fits.0, fits_more few more most y fits.1)
  truth_fits_more few more most (And s t) fits = (truth_fits_more few more most s fits.0, truth_fits_more few more most t fits.1)
  truth_fits_more few more most (Or s t) fits = (truth_fits_more few more most s fits.0, truth_fits_more few more most t fits.1)
  truth_fits_more few more most (Not t) fits = truth_fits_more few more most t fits
  truth_fits_more few more most (Select c s t) fits = (truth_fits_more few more most c fits.0, truth_fits_more few more most s fits.1, truth_fits_more few more most t fits.2)
  truth_fits_more few more most (IsValid header) fits = let h : few.headers ≤ more.headers = most.headers in omega (arith, h, fits)
  truth_fits_more few more most (OfNumber x) fits = fits_more few more most x fits
