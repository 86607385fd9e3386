-- The plain data that an expression's node is the root of.
use Rattle.bm_expr.specs.declared.expression.NumberNode.{NumberNode}
use Rattle.bm_expr.specs.declared.expression.NumberNode.TheVariants as numbers
use Rattle.bm_expr.specs.declared.expression.TruthNode.{TruthNode}
use Rattle.bm_expr.specs.declared.expression.TruthNode.TheVariants as truths
use Rattle.bm_expr.specs.Trees.{Number, Truth, Field, Literal, Datum, Add, Subtract, Multiply, ShiftLeft, ShiftRight, BitAnd, BitOr, BitXor, BitNot, Choose, OfTruth, Constant, Equal, NotEqual, Less, LessOrEqual, Greater, GreaterOrEqual, And, Or, Not, Select, IsValid, OfNumber}

-- the number of which a node is the root
abbrev pub number_of_node : NumberNode → Number
number_of_node (numbers.Field place) = Field place
number_of_node (numbers.Literal n) = Literal n
number_of_node (numbers.Datum i) = Datum i
number_of_node (numbers.Add x y) = Add x.value y.value
number_of_node (numbers.Subtract x y) = Subtract x.value y.value
number_of_node (numbers.Multiply x y) = Multiply x.value y.value
number_of_node (numbers.ShiftLeft x y) = ShiftLeft x.value y.value
number_of_node (numbers.ShiftRight x y) = ShiftRight x.value y.value
number_of_node (numbers.BitAnd x y) = BitAnd x.value y.value
number_of_node (numbers.BitOr x y) = BitOr x.value y.value
number_of_node (numbers.BitXor x y) = BitXor x.value y.value
number_of_node (numbers.BitNot x) = BitNot x.value
number_of_node (numbers.Choose c x y) = Choose c.value x.value y.value
number_of_node (numbers.OfTruth t) = OfTruth t.value

-- the truth value of which a node is the root
abbrev pub truth_of_node : TruthNode → Truth
truth_of_node (truths.Constant b) = Constant b
truth_of_node (truths.Equal x y) = Equal x.value y.value
truth_of_node (truths.NotEqual x y) = NotEqual x.value y.value
truth_of_node (truths.Less x y) = Less x.value y.value
truth_of_node (truths.LessOrEqual x y) = LessOrEqual x.value y.value
truth_of_node (truths.Greater x y) = Greater x.value y.value
truth_of_node (truths.GreaterOrEqual x y) = GreaterOrEqual x.value y.value
truth_of_node (truths.And s t) = And s.value t.value
truth_of_node (truths.Or s t) = Or s.value t.value
truth_of_node (truths.Not t) = Not t.value
truth_of_node (truths.Select c s t) = Select c.value s.value t.value
truth_of_node (truths.IsValid header) = IsValid header
truth_of_node (truths.OfNumber x) = OfNumber x.value
