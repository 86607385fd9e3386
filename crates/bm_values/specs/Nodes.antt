-- The tree that an expression's node is the root of.
use Rattle.bm_values.specs.declared.raw.Node.{Node}
use Rattle.bm_values.specs.declared.raw.Node.TheVariants as nodes
use Rattle.bm_values.specs.Trees.{Tree, field, literal, truth, datum, valid, unary, binary, choice, left_out, unknown}

-- the tree of which a node is the root
abbrev pub tree_of_node : Node → Tree
tree_of_node (nodes.Field name) = field name
tree_of_node (nodes.Literal value) = literal value
tree_of_node (nodes.Truth value) = truth value
tree_of_node (nodes.Datum index) = datum index
tree_of_node (nodes.Valid header) = valid header
tree_of_node (nodes.Unary operator x) = unary operator x.value
tree_of_node (nodes.Binary operator x y) = binary operator x.value y.value
tree_of_node (nodes.Choice condition x y) = choice condition.value x.value y.value
tree_of_node nodes.LeftOut = left_out
tree_of_node (nodes.Unknown name) = unknown name
