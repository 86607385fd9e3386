-- Each operand is lower than the expression that it stands in.
use Rattle.std.specs.Prelude.{◌≤◌, max}
use Rattle.std.proofs.Common.{arith}
use Rattle.bm_values.specs.declared.raw.Node.{Node}
use Rattle.bm_values.specs.declared.raw.Node.TheVariants as nodes
use Rattle.bm_values.specs.declared.raw.Expression.TheDeep.{deep-Node}
use Rattle.bm_values.specs.Trees.{height}
use Rattle.bm_values.specs.Nodes.{tree_of_node}

-- no operand is as high as the tree of the node
pub falls : (n : Node) → max (deep-Node n) 0 ≤ height (tree_of_node n)
falls (nodes.Field name) = omega arith
falls (nodes.Literal value) = omega arith
falls (nodes.Truth value) = omega arith
falls (nodes.Datum index) = omega arith
falls (nodes.Valid header) = omega arith
falls (nodes.Unary operator x) = omega arith
falls (nodes.Binary operator x y) = omega arith
falls (nodes.Choice condition x y) = omega arith
falls nodes.LeftOut = omega arith
falls (nodes.Unknown name) = omega arith
