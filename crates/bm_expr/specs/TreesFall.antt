-- Each operand is lower than the expression that it stands in.
use Rattle.std.specs.Prelude.{◌≤◌, max}
use Rattle.std.proofs.Common.{arith}
use Rattle.bm_expr.specs.declared.expression.NumberNode.{NumberNode}
use Rattle.bm_expr.specs.declared.expression.NumberNode.TheVariants as numbers
use Rattle.bm_expr.specs.declared.expression.TruthNode.{TruthNode}
use Rattle.bm_expr.specs.declared.expression.TruthNode.TheVariants as truths
use Rattle.bm_expr.specs.declared.expression.Number.TheDeep.{deep-NumberNode, deep-TruthNode}
use Rattle.bm_expr.specs.Trees.{number_height, truth_height}
use Rattle.bm_expr.specs.Nodes.{number_of_node, truth_of_node}

-- no operand is as high as the number that a node is the root of
pub number_falls : (n : NumberNode) → max (deep-NumberNode n) 0 ≤ number_height (number_of_node n)
number_falls (numbers.Field place) = omega arith
number_falls (numbers.Literal n) = omega arith
number_falls (numbers.Datum i) = omega arith
number_falls (numbers.Add x y) = omega arith
number_falls (numbers.Subtract x y) = omega arith
number_falls (numbers.Multiply x y) = omega arith
number_falls (numbers.ShiftLeft x y) = omega arith
number_falls (numbers.ShiftRight x y) = omega arith
number_falls (numbers.BitAnd x y) = omega arith
number_falls (numbers.BitOr x y) = omega arith
number_falls (numbers.BitXor x y) = omega arith
number_falls (numbers.BitNot x) = omega arith
number_falls (numbers.Choose c x y) = omega arith
number_falls (numbers.OfTruth t) = omega arith

-- no operand is as high as the truth value that a node is the root of
pub truth_falls : (n : TruthNode) → max (deep-TruthNode n) 0 ≤ truth_height (truth_of_node n)
truth_falls (truths.Constant b) = omega arith
truth_falls (truths.Equal x y) = omega arith
truth_falls (truths.NotEqual x y) = omega arith
truth_falls (truths.Less x y) = omega arith
truth_falls (truths.LessOrEqual x y) = omega arith
truth_falls (truths.Greater x y) = omega arith
truth_falls (truths.GreaterOrEqual x y) = omega arith
truth_falls (truths.And s t) = omega arith
truth_falls (truths.Or s t) = omega arith
truth_falls (truths.Not t) = omega arith
truth_falls (truths.Select c s t) = omega arith
truth_falls (truths.IsValid header) = omega arith
truth_falls (truths.OfNumber x) = omega arith
