use Rattle.std.proofs.Common.{◌+◌, ◌*◌}
use Rattle.serde_json.specs.Data.{depth}
use Rattle.json_tree.specs.View.{view}
use Rattle.bm_values.proofs.expressions.+trees.Given as goal

abbrev pub decreases-member : goal.decreases-member
decreases-member l = 8 * depth (view l.value.now)

abbrev pub decreases-operand : goal.decreases-operand
decreases-operand l = 8 * depth (view l.value.now)

abbrev pub decreases-unary : goal.decreases-unary
decreases-unary l = 8 * depth (view l.value.now) + 1

abbrev pub decreases-binary : goal.decreases-binary
decreases-binary l = 8 * depth (view l.value.now) + 1

abbrev pub decreases-choice : goal.decreases-choice
decreases-choice l = 8 * depth (view l.value.now) + 1

abbrev pub decreases-operation_with : goal.decreases-operation_with
decreases-operation_with l = 8 * depth (view l.value.now) + 2

abbrev pub decreases-operation : goal.decreases-operation
decreases-operation l = 8 * depth (view l.value.now) + 3

abbrev pub decreases-value_with : goal.decreases-value_with
decreases-value_with l = 8 * depth (view l.value.now) + 3

abbrev pub decreases-tree : goal.decreases-tree
decreases-tree l = 8 * depth (view l.value.now) + 4
