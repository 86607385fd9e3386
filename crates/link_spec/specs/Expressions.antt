-- Expressions over places, of trees that mix no truth values and numbers; any other tree stands for 0 or for false.
use Rattle.std.specs.Prelude.{false, if◌then◌else◌}
use Rattle.bm_expr.specs.Trees.{Number, Truth}
use Rattle.bm_expr.specs.Trees as to
use Rattle.bm_values.specs.Trees.{Tree, field, literal, truth, datum, valid, unary, binary, choice}
use Rattle.bm_values.specs.declared.raw.UnaryOperator.TheVariants.{BitNot, Not, ToTruth, ToNumber}
use Rattle.bm_values.specs.declared.raw.BinaryOperator.{BinaryOperator}
use Rattle.bm_values.specs.declared.raw.BinaryOperator.TheVariants.{Add, Subtract, Multiply, ShiftLeft, ShiftRight, BitAnd, BitOr, BitXor, Equal, NotEqual, Less, LessOrEqual, Greater, GreaterOrEqual, And, Or}
use Rattle.bm_values.specs.declared.raw.FieldName.{FieldName}
use Rattle.bm_records.specs.declared.raw.RawProgram.{RawProgram}
use Rattle.bm_rules.specs.Fields.{is_validity}
use Rattle.link_spec.specs.Fields.{field_at, header_at, of_part}

-- what is read as a field, as a number
abbrev pub field_number : RawProgram → FieldName → Number
field_number raw name = if is_validity name then to.OfTruth (to.IsValid (header_at raw name.header)) else to.Field (field_at raw name)

-- an operation of two numbers that is a number
abbrev pub number_by : BinaryOperator → Number → Number → Number
number_by Add x y = to.Add x y
number_by Subtract x y = to.Subtract x y
number_by Multiply x y = to.Multiply x y
number_by ShiftLeft x y = to.ShiftLeft x y
number_by ShiftRight x y = to.ShiftRight x y
number_by BitAnd x y = to.BitAnd x y
number_by BitOr x y = to.BitOr x y
number_by BitXor x y = to.BitXor x y
number_by _ x y = to.Literal 0

abbrev mutual
  -- a tree that is a number
  pub number_of : RawProgram → Tree → Number
  number_of raw (field name) = field_number raw name
  number_of raw (literal value) = of_part (to.Literal 0) to.Literal value
  number_of raw (datum index) = to.Datum index
  number_of raw (unary BitNot x) = to.BitNot (number_of raw x)
  number_of raw (unary ToNumber x) = to.OfTruth (truth_of raw x)
  number_of raw (binary operator x y) = number_by operator (number_of raw x) (number_of raw y)
  number_of raw (choice condition x y) = to.Choose (truth_of raw condition) (number_of raw x) (number_of raw y)
  number_of raw _ = to.Literal 0

  -- a tree that is a truth value
  pub truth_of : RawProgram → Tree → Truth
  truth_of raw (truth value) = to.Constant value
  truth_of raw (valid header) = of_part (to.Constant false) (λ name. to.IsValid (header_at raw name)) header
  truth_of raw (unary Not x) = to.Not (truth_of raw x)
  truth_of raw (unary ToTruth x) = to.OfNumber (number_of raw x)
  truth_of raw (binary And x y) = to.And (truth_of raw x) (truth_of raw y)
  truth_of raw (binary Or x y) = to.Or (truth_of raw x) (truth_of raw y)
  truth_of raw (binary Equal x y) = to.Equal (number_of raw x) (number_of raw y)
  truth_of raw (binary NotEqual x y) = to.NotEqual (number_of raw x) (number_of raw y)
  truth_of raw (binary Less x y) = to.Less (number_of raw x) (number_of raw y)
  truth_of raw (binary LessOrEqual x y) = to.LessOrEqual (number_of raw x) (number_of raw y)
  truth_of raw (binary Greater x y) = to.Greater (number_of raw x) (number_of raw y)
  truth_of raw (binary GreaterOrEqual x y) = to.GreaterOrEqual (number_of raw x) (number_of raw y)
  truth_of raw (choice condition x y) = to.Select (truth_of raw condition) (truth_of raw x) (truth_of raw y)
  truth_of raw _ = to.Constant false

-- a value that is assigned or counted: a truth constant stands for `b2d` of it
abbrev pub value_of : RawProgram → Tree → Number
value_of raw (truth value) = to.OfTruth (to.Constant value)
value_of raw tree = number_of raw tree
