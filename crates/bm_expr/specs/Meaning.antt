-- What an expression means, and where it may be asked.
use Rattle.std.specs.Prelude.{ℕ, Bool, not, ◌&&◌, ◌||◌, if◌then◌else◌, List, length, slice_index, ◌+◌, ◌-◌, ◌*◌, ◌/◌, ◌%◌, ◌^◌, ◌==◌, nat_lt, nat_le, bit_and, bit_or, bit_xor}
use Rattle.bm_expr.specs.Trees.{Number, Truth, Field, Literal, Datum, Add, Subtract, Multiply, ShiftLeft, ShiftRight, BitAnd, BitOr, BitXor, BitNot, Choose, OfTruth, Constant, Equal, NotEqual, Less, LessOrEqual, Greater, GreaterOrEqual, And, Or, Not, Select, IsValid, OfNumber}
use Rattle.bm_expr.specs.Store.{Contents, header_valid, field_read}
use Rattle.bm_expr.specs.Fits.{NumberFits, TruthFits}
use Rattle.bm_expr.specs.declared.fitting.Counts.{Counts}

-- Each operator keeps the lowest 128 bits of its result.
abbrev mutual
  -- the value of an expression that is a number
  pub number_value : Contents → List ℕ → Number → ℕ
  number_value store args (Field place) = field_read store place
  number_value store args (Literal n) = n
  number_value store args (Datum i) = slice_index args i
  number_value store args (Add x y) = (number_value store args x + number_value store args y) % 2 ^ 128
  number_value store args (Subtract x y) = (number_value store args x + 2 ^ 128 - number_value store args y) % 2 ^ 128
  number_value store args (Multiply x y) = (number_value store args x * number_value store args y) % 2 ^ 128
  number_value store args (ShiftLeft x y) = (number_value store args x * 2 ^ number_value store args y) % 2 ^ 128
  number_value store args (ShiftRight x y) = number_value store args x / 2 ^ number_value store args y
  number_value store args (BitAnd x y) = bit_and (number_value store args x) (number_value store args y)
  number_value store args (BitOr x y) = bit_or (number_value store args x) (number_value store args y)
  number_value store args (BitXor x y) = bit_xor (number_value store args x) (number_value store args y)
  number_value store args (BitNot x) = 2 ^ 128 - 1 - number_value store args x
  number_value store args (Choose c x y) = if truth_value store args c then number_value store args x else number_value store args y
  number_value store args (OfTruth t) = if truth_value store args t then 1 else 0

  -- the value of an expression that is a truth value
  pub truth_value : Contents → List ℕ → Truth → Bool
  truth_value store args (Constant b) = b
  truth_value store args (Equal x y) = number_value store args x == number_value store args y
  truth_value store args (NotEqual x y) = not (number_value store args x == number_value store args y)
  truth_value store args (Less x y) = nat_lt (number_value store args x) (number_value store args y)
  truth_value store args (LessOrEqual x y) = nat_le (number_value store args x) (number_value store args y)
  truth_value store args (Greater x y) = nat_lt (number_value store args y) (number_value store args x)
  truth_value store args (GreaterOrEqual x y) = nat_le (number_value store args y) (number_value store args x)
  truth_value store args (And s t) = truth_value store args s && truth_value store args t
  truth_value store args (Or s t) = truth_value store args s || truth_value store args t
  truth_value store args (Not t) = not (truth_value store args t)
  truth_value store args (Select c s t) = if truth_value store args c then truth_value store args s else truth_value store args t
  truth_value store args (IsValid header) = header_valid store header
  truth_value store args (OfNumber x) = not (number_value store args x == 0)

-- how many fields, headers and data there are where an expression is asked
abbrev pub counts_of : Contents → List ℕ → Counts
counts_of store args = record { fields = length store.fields; headers = length store.valid; args = length args }

-- an expression that is a number may be asked of this store with these data
abbrev pub NumberInStore : Contents → List ℕ → Number → Type 0
NumberInStore store args number = NumberFits (counts_of store args) number

-- the same of one that is a truth value
abbrev pub TruthInStore : Contents → List ℕ → Truth → Type 0
TruthInStore store args truth = TruthFits (counts_of store args) truth
