-- Expressions over whole numbers, which no operator cuts.
use Rattle.std.specs.Prelude.{◌≡◌, ℕ, Bool, true, false, not, ◌&&◌, ◌||◌, if◌then◌else◌, List, slice_index, All, ◌-◌, ◌/◌, ◌%◌, ◌^◌, ◌<◌, bit_and, bit_or, bit_xor, ◌==◌, ℤ, pos, negsuc, ◌+ℤ◌, ◌-ℤ◌, ◌*ℤ◌, nat_abs, int_lt, int_le}
use Rattle.bm_expr.specs.Trees.{Number, Truth, Field, Literal, Datum, Add, Subtract, Multiply, ShiftLeft, ShiftRight, BitAnd, BitOr, BitXor, BitNot, Choose, OfTruth, Constant, Equal, NotEqual, Less, LessOrEqual, Greater, GreaterOrEqual, And, Or, Not, Select, IsValid, OfNumber}
use Rattle.bm_expr.specs.Store.{Contents, header_valid, field_read}
use Rattle.bm_expr.specs.Meaning.{number_value, truth_value, NumberInStore, TruthInStore}
use Rattle.bm_expr.specs.Settled.{is_settled, number_operands_settled, truth_operands_settled}

-- the lowest 128 bits of an integer in two's complement
abbrev pub lowest : ℤ → ℕ
lowest (pos n) = n % 2 ^ 128
lowest (negsuc n) = 2 ^ 128 - 1 - n % 2 ^ 128

-- `~`, `&`, `|`, `^` and `>>` of integers in two's complement without end: `negsuc n` has the bits that `n` has not
abbrev pub int_not : ℤ → ℤ
int_not (pos n) = negsuc n
int_not (negsuc n) = pos n

-- `&`: the bits that both integers have
abbrev pub int_and : ℤ → ℤ → ℤ
int_and (pos a) (pos b) = pos (bit_and a b)
int_and (pos a) (negsuc b) = pos (a - bit_and a b)
int_and (negsuc a) (pos b) = pos (b - bit_and b a)
int_and (negsuc a) (negsuc b) = negsuc (bit_or a b)

-- `|`: the bits that one of the integers has, or both
abbrev pub int_or : ℤ → ℤ → ℤ
int_or x y = int_not (int_and (int_not x) (int_not y))

-- `^`: the bits that just one of the integers has
abbrev pub int_xor : ℤ → ℤ → ℤ
int_xor (pos a) (pos b) = pos (bit_xor a b)
int_xor (pos a) (negsuc b) = negsuc (bit_xor a b)
int_xor (negsuc a) (pos b) = negsuc (bit_xor a b)
int_xor (negsuc a) (negsuc b) = pos (bit_xor a b)

-- `>>`: an integer without its lowest k bits, its sign kept
abbrev pub int_right : ℤ → ℕ → ℤ
int_right (pos n) k = pos (n / 2 ^ k)
int_right (negsuc n) k = negsuc (n / 2 ^ k)

-- two integers are the same
abbrev pub int_same : ℤ → ℤ → Bool
int_same (pos a) (pos b) = a == b
int_same (pos a) (negsuc b) = false
int_same (negsuc a) (pos b) = false
int_same (negsuc a) (negsuc b) = a == b

abbrev mutual
  -- the value of a number over whole numbers; a shift is asked only at amounts that are not negative
  pub whole_number : Contents → List ℕ → Number → ℤ
  whole_number store args (Field place) = pos (field_read store place)
  whole_number store args (Literal n) = pos n
  whole_number store args (Datum i) = pos (slice_index args i)
  whole_number store args (Add x y) = whole_number store args x +ℤ whole_number store args y
  whole_number store args (Subtract x y) = whole_number store args x -ℤ whole_number store args y
  whole_number store args (Multiply x y) = whole_number store args x *ℤ whole_number store args y
  whole_number store args (ShiftLeft x y) = whole_number store args x *ℤ pos (2 ^ nat_abs (whole_number store args y))
  whole_number store args (ShiftRight x y) = int_right (whole_number store args x) (nat_abs (whole_number store args y))
  whole_number store args (BitAnd x y) = int_and (whole_number store args x) (whole_number store args y)
  whole_number store args (BitOr x y) = int_or (whole_number store args x) (whole_number store args y)
  whole_number store args (BitXor x y) = int_xor (whole_number store args x) (whole_number store args y)
  whole_number store args (BitNot x) = int_not (whole_number store args x)
  whole_number store args (Choose c x y) = if whole_truth store args c then whole_number store args x else whole_number store args y
  whole_number store args (OfTruth t) = if whole_truth store args t then pos 1 else pos 0

  -- the value of a truth value over whole numbers
  pub whole_truth : Contents → List ℕ → Truth → Bool
  whole_truth store args (Constant b) = b
  whole_truth store args (Equal x y) = int_same (whole_number store args x) (whole_number store args y)
  whole_truth store args (NotEqual x y) = not (int_same (whole_number store args x) (whole_number store args y))
  whole_truth store args (Less x y) = int_lt (whole_number store args x) (whole_number store args y)
  whole_truth store args (LessOrEqual x y) = int_le (whole_number store args x) (whole_number store args y)
  whole_truth store args (Greater x y) = int_lt (whole_number store args y) (whole_number store args x)
  whole_truth store args (GreaterOrEqual x y) = int_le (whole_number store args y) (whole_number store args x)
  whole_truth store args (And s t) = whole_truth store args s && whole_truth store args t
  whole_truth store args (Or s t) = whole_truth store args s || whole_truth store args t
  whole_truth store args (Not t) = not (whole_truth store args t)
  whole_truth store args (Select c s t) = if whole_truth store args c then whole_truth store args s else whole_truth store args t
  whole_truth store args (IsValid header) = header_valid store header
  whole_truth store args (OfNumber x) = not (int_same (whole_number store args x) (pos 0))

-- The numbers of fields and data have 128 bits.
pub record HasWords (store : Contents) (args : List ℕ) : Type 0 where
  pub fields : All (λ n. n < 2 ^ 128) store.fields
  pub words : All (λ n. n < 2 ^ 128) args

-- Where the operands within a number are settled, its value is the lowest 128 bits of that over whole numbers.
abbrev pub ValueIsLowest : Type 0
ValueIsLowest = (store : Contents) (args : List ℕ) (number : Number) → HasWords store args → NumberInStore store args number
    → number_operands_settled number ≡ true → number_value store args number ≡ lowest (whole_number store args number)

-- Where the number is settled too, its value is that over whole numbers.
abbrev pub SettledIsWhole : Type 0
SettledIsWhole = (store : Contents) (args : List ℕ) (number : Number) → HasWords store args → NumberInStore store args number
    → number_operands_settled number ≡ true → is_settled number ≡ true → whole_number store args number ≡ pos (number_value store args number)

-- Where the operands within a truth value are settled, it holds as it does over whole numbers.
abbrev pub TruthIsWhole : Type 0
TruthIsWhole = (store : Contents) (args : List ℕ) (truth : Truth) → HasWords store args → TruthInStore store args truth
    → truth_operands_settled truth ≡ true → truth_value store args truth ≡ whole_truth store args truth
