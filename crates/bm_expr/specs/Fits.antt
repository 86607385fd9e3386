-- Which expressions fit a program, by how many fields, headers and data it has.
use Rattle.std.specs.Prelude.{Bool, true, ◌&&◌, ◌^◌, ◌<◌, ◌≤◌, nat_lt, nat_le}
use Rattle.bm_expr.specs.declared.store.FieldPlace.{FieldPlace}
use Rattle.bm_expr.specs.declared.fitting.Counts.{Counts}
use Rattle.bm_expr.specs.Trees.{Number, Truth, Field, Literal, Datum, Add, Subtract, Multiply, ShiftLeft, ShiftRight, BitAnd, BitOr, BitXor, BitNot, Choose, OfTruth, Constant, Equal, NotEqual, Less, LessOrEqual, Greater, GreaterOrEqual, And, Or, Not, Select, IsValid, OfNumber}

-- a field and its header are among these counts, and its width is one of at most 128 bits
pub record FieldFits (counts : Counts) (place : FieldPlace) : Type 0 where
  pub field : place.index < counts.fields
  pub header : place.header < counts.headers
  pub width : place.width ≤ 128

-- The fields, headers and data that an expression names are among these counts, its fields have widths of at most 128 bits,
-- and so have its literals.
abbrev mutual
  -- so it is with an expression that is a number
  pub NumberFits : Counts → Number → Type 0
  NumberFits counts (Field place) = FieldFits counts place
  NumberFits counts (Literal n) = n < 2 ^ 128
  NumberFits counts (Datum i) = i < counts.args
  NumberFits counts (Add x y) = NumberFits counts x × NumberFits counts y
  NumberFits counts (Subtract x y) = NumberFits counts x × NumberFits counts y
  NumberFits counts (Multiply x y) = NumberFits counts x × NumberFits counts y
  NumberFits counts (ShiftLeft x y) = NumberFits counts x × NumberFits counts y
  NumberFits counts (ShiftRight x y) = NumberFits counts x × NumberFits counts y
  NumberFits counts (BitAnd x y) = NumberFits counts x × NumberFits counts y
  NumberFits counts (BitOr x y) = NumberFits counts x × NumberFits counts y
  NumberFits counts (BitXor x y) = NumberFits counts x × NumberFits counts y
  NumberFits counts (BitNot x) = NumberFits counts x
  NumberFits counts (Choose c x y) = TruthFits counts c × NumberFits counts x × NumberFits counts y
  NumberFits counts (OfTruth t) = TruthFits counts t

  -- the same for an expression that is a truth value
  pub TruthFits : Counts → Truth → Type 0
  TruthFits counts (Constant b) = Unit
  TruthFits counts (Equal x y) = NumberFits counts x × NumberFits counts y
  TruthFits counts (NotEqual x y) = NumberFits counts x × NumberFits counts y
  TruthFits counts (Less x y) = NumberFits counts x × NumberFits counts y
  TruthFits counts (LessOrEqual x y) = NumberFits counts x × NumberFits counts y
  TruthFits counts (Greater x y) = NumberFits counts x × NumberFits counts y
  TruthFits counts (GreaterOrEqual x y) = NumberFits counts x × NumberFits counts y
  TruthFits counts (And s t) = TruthFits counts s × TruthFits counts t
  TruthFits counts (Or s t) = TruthFits counts s × TruthFits counts t
  TruthFits counts (Not t) = TruthFits counts t
  TruthFits counts (Select c s t) = TruthFits counts c × TruthFits counts s × TruthFits counts t
  TruthFits counts (IsValid header) = header < counts.headers
  TruthFits counts (OfNumber x) = NumberFits counts x

-- whether a field fits these counts
abbrev pub field_fits : Counts → FieldPlace → Bool
field_fits counts place = nat_lt place.index counts.fields && nat_lt place.header counts.headers && nat_le place.width 128

-- The same as tests.
abbrev mutual
  -- so it is with an expression that is a number
  pub number_fits : Counts → Number → Bool
  number_fits counts (Field place) = field_fits counts place
  number_fits counts (Literal n) = nat_lt n (2 ^ 128)
  number_fits counts (Datum i) = nat_lt i counts.args
  number_fits counts (Add x y) = number_fits counts x && number_fits counts y
  number_fits counts (Subtract x y) = number_fits counts x && number_fits counts y
  number_fits counts (Multiply x y) = number_fits counts x && number_fits counts y
  number_fits counts (ShiftLeft x y) = number_fits counts x && number_fits counts y
  number_fits counts (ShiftRight x y) = number_fits counts x && number_fits counts y
  number_fits counts (BitAnd x y) = number_fits counts x && number_fits counts y
  number_fits counts (BitOr x y) = number_fits counts x && number_fits counts y
  number_fits counts (BitXor x y) = number_fits counts x && number_fits counts y
  number_fits counts (BitNot x) = number_fits counts x
  number_fits counts (Choose c x y) = truth_fits counts c && number_fits counts x && number_fits counts y
  number_fits counts (OfTruth t) = truth_fits counts t

  -- the same for an expression that is a truth value
  pub truth_fits : Counts → Truth → Bool
  truth_fits counts (Constant b) = true
  truth_fits counts (Equal x y) = number_fits counts x && number_fits counts y
  truth_fits counts (NotEqual x y) = number_fits counts x && number_fits counts y
  truth_fits counts (Less x y) = number_fits counts x && number_fits counts y
  truth_fits counts (LessOrEqual x y) = number_fits counts x && number_fits counts y
  truth_fits counts (Greater x y) = number_fits counts x && number_fits counts y
  truth_fits counts (GreaterOrEqual x y) = number_fits counts x && number_fits counts y
  truth_fits counts (And s t) = truth_fits counts s && truth_fits counts t
  truth_fits counts (Or s t) = truth_fits counts s && truth_fits counts t
  truth_fits counts (Not t) = truth_fits counts t
  truth_fits counts (Select c s t) = truth_fits counts c && truth_fits counts s && truth_fits counts t
  truth_fits counts (IsValid header) = nat_lt header counts.headers
  truth_fits counts (OfNumber x) = number_fits counts x

-- one program has no more fields, headers and data than another
pub record HasAtMost (few more : Counts) : Type 0 where
  pub fields : few.fields ≤ more.fields
  pub headers : few.headers ≤ more.headers
  pub args : few.args ≤ more.args

-- An expression that fits a program fits each one with more.
abbrev pub FitsMore : Type 0
FitsMore = (few more : Counts) → HasAtMost few more → (number : Number) → NumberFits few number → NumberFits more number

-- the same of one that is a truth value
abbrev pub TruthFitsMore : Type 0
TruthFitsMore = (few more : Counts) → HasAtMost few more → (truth : Truth) → TruthFits few truth → TruthFits more truth
