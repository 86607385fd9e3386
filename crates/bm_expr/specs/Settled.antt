-- Which numbers are settled: cutting them to 128 bits changes nothing, since they are no sum, difference, product or left shift.
use Rattle.std.specs.Prelude.{Bool, true, false, ◌&&◌, ◌||◌}
use Rattle.bm_expr.specs.Trees.{Number, Truth, Field, Literal, Datum, Add, Subtract, Multiply, ShiftLeft, ShiftRight, BitAnd, BitOr, BitXor, BitNot, Choose, OfTruth, Constant, Equal, NotEqual, Less, LessOrEqual, Greater, GreaterOrEqual, And, Or, Not, Select, IsValid, OfNumber}

-- a literal
abbrev pub is_literal : Number → Bool
is_literal (Literal _) = true
is_literal _ = false

-- a settled number: a field, literal, datum or `b2d`; `&`, `|`, `^` or `?` of settled ones; `>>` of one; `&` with a literal
abbrev pub is_settled : Number → Bool
is_settled (Field _) = true
is_settled (Literal _) = true
is_settled (Datum _) = true
is_settled (ShiftRight x y) = is_settled x
is_settled (BitAnd x y) = (is_settled x && is_settled y) || is_literal x || is_literal y
is_settled (BitOr x y) = is_settled x && is_settled y
is_settled (BitXor x y) = is_settled x && is_settled y
is_settled (Choose c x y) = is_settled x && is_settled y
is_settled (OfTruth t) = true
is_settled _ = false

-- Every operand that must be settled is: those of comparisons and of `d2b`, the left of `>>`, and shift amounts.
abbrev mutual
  -- so it is within an expression that is a number
  pub number_operands_settled : Number → Bool
  number_operands_settled (Field _) = true
  number_operands_settled (Literal _) = true
  number_operands_settled (Datum _) = true
  number_operands_settled (Add x y) = number_operands_settled x && number_operands_settled y
  number_operands_settled (Subtract x y) = number_operands_settled x && number_operands_settled y
  number_operands_settled (Multiply x y) = number_operands_settled x && number_operands_settled y
  number_operands_settled (ShiftLeft x y) = number_operands_settled x && number_operands_settled y && is_settled y
  number_operands_settled (ShiftRight x y) = number_operands_settled x && number_operands_settled y && is_settled x && is_settled y
  number_operands_settled (BitAnd x y) = number_operands_settled x && number_operands_settled y
  number_operands_settled (BitOr x y) = number_operands_settled x && number_operands_settled y
  number_operands_settled (BitXor x y) = number_operands_settled x && number_operands_settled y
  number_operands_settled (BitNot x) = number_operands_settled x
  number_operands_settled (Choose c x y) = truth_operands_settled c && number_operands_settled x && number_operands_settled y
  number_operands_settled (OfTruth t) = truth_operands_settled t

  -- the same within an expression that is a truth value
  pub truth_operands_settled : Truth → Bool
  truth_operands_settled (Constant _) = true
  truth_operands_settled (Equal x y) = number_operands_settled x && number_operands_settled y && is_settled x && is_settled y
  truth_operands_settled (NotEqual x y) = number_operands_settled x && number_operands_settled y && is_settled x && is_settled y
  truth_operands_settled (Less x y) = number_operands_settled x && number_operands_settled y && is_settled x && is_settled y
  truth_operands_settled (LessOrEqual x y) = number_operands_settled x && number_operands_settled y && is_settled x && is_settled y
  truth_operands_settled (Greater x y) = number_operands_settled x && number_operands_settled y && is_settled x && is_settled y
  truth_operands_settled (GreaterOrEqual x y) = number_operands_settled x && number_operands_settled y && is_settled x && is_settled y
  truth_operands_settled (And s t) = truth_operands_settled s && truth_operands_settled t
  truth_operands_settled (Or s t) = truth_operands_settled s && truth_operands_settled t
  truth_operands_settled (Not t) = truth_operands_settled t
  truth_operands_settled (Select c s t) = truth_operands_settled c && truth_operands_settled s && truth_operands_settled t
  truth_operands_settled (IsValid _) = true
  truth_operands_settled (OfNumber x) = number_operands_settled x && is_settled x
