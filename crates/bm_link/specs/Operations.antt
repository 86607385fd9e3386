-- Operations of two operands that are truth values.
use Rattle.std.specs.Prelude.{false}
use Rattle.bm_expr.specs.Trees.{Number, Truth}
use Rattle.bm_expr.specs.Trees as to
use Rattle.bm_values.specs.declared.raw.BinaryOperator.{BinaryOperator}
use Rattle.bm_values.specs.declared.raw.BinaryOperator.TheVariants.{Equal, NotEqual, Less, LessOrEqual, Greater, GreaterOrEqual, And, Or}

-- two numbers compared, false of any other operator
abbrev pub compared_by : BinaryOperator → Number → Number → Truth
compared_by Equal x y = to.Equal x y
compared_by NotEqual x y = to.NotEqual x y
compared_by Less x y = to.Less x y
compared_by LessOrEqual x y = to.LessOrEqual x y
compared_by Greater x y = to.Greater x y
compared_by GreaterOrEqual x y = to.GreaterOrEqual x y
compared_by _ x y = to.Constant false

-- two truth values joined, false of any other operator
abbrev pub joined_by : BinaryOperator → Truth → Truth → Truth
joined_by And x y = to.And x y
joined_by Or x y = to.Or x y
joined_by _ x y = to.Constant false
