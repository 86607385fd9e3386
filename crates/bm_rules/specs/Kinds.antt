-- Numbers and truth values, and which numbers are settled (this project's profile of BMv2's expressions).
use Rattle.std.specs.Prelude.{Bool, true, false, ◌&&◌, ◌||◌}
use Rattle.bm_values.specs.Trees.{Tree, field, literal, truth, datum, valid, unary, binary, choice}
use Rattle.bm_values.specs.declared.raw.UnaryOperator.TheVariants.{BitNot, Not, ToTruth, ToNumber}
use Rattle.bm_values.specs.declared.raw.BinaryOperator.{BinaryOperator}
use Rattle.bm_values.specs.declared.raw.BinaryOperator.TheVariants.{Add, Subtract, Multiply, ShiftLeft, ShiftRight, BitAnd, BitOr, BitXor, Equal, NotEqual, Less, LessOrEqual, Greater, GreaterOrEqual, And, Or}

-- an operator of two numbers whose value is a number
abbrev pub gives_number : BinaryOperator → Bool
gives_number Add = true
gives_number Subtract = true
gives_number Multiply = true
gives_number ShiftLeft = true
gives_number ShiftRight = true
gives_number BitAnd = true
gives_number BitOr = true
gives_number BitXor = true
gives_number _ = false

-- An expression mixes no truth values and numbers.
abbrev mutual
  -- it is a number
  pub is_number : Tree → Bool
  is_number (field f) = true
  is_number (literal l) = true
  is_number (datum i) = true
  is_number (unary BitNot x) = is_number x
  is_number (unary ToNumber x) = is_truth x
  is_number (unary _ x) = false
  is_number (binary operator x y) = gives_number operator && is_number x && is_number y
  is_number (choice condition x y) = is_truth condition && is_number x && is_number y
  is_number _ = false

  -- it is a truth value
  pub is_truth : Tree → Bool
  is_truth (truth b) = true
  is_truth (valid h) = true
  is_truth (unary Not x) = is_truth x
  is_truth (unary ToTruth x) = is_number x
  is_truth (unary _ x) = false
  is_truth (binary And x y) = is_truth x && is_truth y
  is_truth (binary Or x y) = is_truth x && is_truth y
  is_truth (binary Equal x y) = is_number x && is_number y
  is_truth (binary NotEqual x y) = is_number x && is_number y
  is_truth (binary Less x y) = is_number x && is_number y
  is_truth (binary LessOrEqual x y) = is_number x && is_number y
  is_truth (binary Greater x y) = is_number x && is_number y
  is_truth (binary GreaterOrEqual x y) = is_number x && is_number y
  is_truth (binary _ x y) = false
  is_truth (choice condition x y) = is_truth condition && is_truth x && is_truth y
  is_truth _ = false

-- a literal
abbrev pub is_literal : Tree → Bool
is_literal (literal l) = true
is_literal _ = false

-- a settled number: a field, literal, datum or `b2d`; `&`, `|`, `^` or `?` of settled ones; `>>` of one; `&` with a literal on either side
abbrev pub is_settled : Tree → Bool
is_settled (field f) = true
is_settled (literal l) = true
is_settled (datum i) = true
is_settled (unary ToNumber x) = true
is_settled (binary ShiftRight x y) = is_settled x
is_settled (binary BitAnd x y) = (is_settled x && is_settled y) || is_literal x || is_literal y
is_settled (binary BitOr x y) = is_settled x && is_settled y
is_settled (binary BitXor x y) = is_settled x && is_settled y
is_settled (choice condition x y) = is_settled x && is_settled y
is_settled _ = false

-- the operands of a binary operator are settled where they must be: those of a comparison, both of `>>`, and the amount of `<<`
abbrev pub are_settled : BinaryOperator → Tree → Tree → Bool
are_settled ShiftLeft x y = is_settled y
are_settled ShiftRight x y = is_settled x && is_settled y
are_settled Equal x y = is_settled x && is_settled y
are_settled NotEqual x y = is_settled x && is_settled y
are_settled Less x y = is_settled x && is_settled y
are_settled LessOrEqual x y = is_settled x && is_settled y
are_settled Greater x y = is_settled x && is_settled y
are_settled GreaterOrEqual x y = is_settled x && is_settled y
are_settled _ x y = true

-- every operand within an expression is settled where it must be: those, and that of `d2b`
abbrev pub operands_settled : Tree → Bool
operands_settled (unary ToTruth x) = is_settled x && operands_settled x
operands_settled (unary _ x) = operands_settled x
operands_settled (binary operator x y) = are_settled operator x y && operands_settled x && operands_settled y
operands_settled (choice condition x y) = operands_settled condition && operands_settled x && operands_settled y
operands_settled _ = true

-- a number, or a truth constant, which stands for `b2d` of it
abbrev pub is_value : Tree → Bool
is_value (truth b) = true
is_value tree = is_number tree && operands_settled tree

-- a settled value
abbrev pub is_settled_value : Tree → Bool
is_settled_value (truth b) = true
is_settled_value tree = is_number tree && operands_settled tree && is_settled tree

-- a truth value
abbrev pub is_condition : Tree → Bool
is_condition tree = is_truth tree && operands_settled tree
