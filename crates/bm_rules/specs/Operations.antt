-- Operations that the profile does not know, and expressions of the wrong kind.
use Rattle.std.specs.Prelude.{Bool, true, false, not, ◌&&◌, ◌||◌, Option, Some, None, codes}
use Rattle.std.specs.List.{list_any, list_all}
use Rattle.std.specs.Str.{bytes_eq}
use Rattle.bm_values.specs.Trees.{Tree, unary, binary, choice, unknown}
use Rattle.bm_records.specs.declared.raw.Primitive.{Primitive}
use Rattle.bm_records.specs.declared.raw.Primitive.TheVariants as primitives
use Rattle.bm_records.specs.declared.raw.ParserOp.{ParserOp}
use Rattle.bm_records.specs.declared.raw.ParserOp.TheVariants as ops
use Rattle.bm_records.specs.declared.raw.RawProgram.{RawProgram}
use Rattle.bm_rules.specs.Kinds.{is_value, is_settled_value, is_condition}

-- an operation within an expression is not known
abbrev pub tree_unknown : Tree → Bool
tree_unknown (unary operator x) = tree_unknown x
tree_unknown (binary operator x y) = tree_unknown x || tree_unknown y
tree_unknown (choice condition x y) = tree_unknown condition || tree_unknown x || tree_unknown y
tree_unknown (unknown name) = true
tree_unknown _ = false

-- the same of a condition, where there is one
abbrev pub condition_unknown : Option Tree → Bool
condition_unknown None = false
condition_unknown (Some condition) = tree_unknown condition

-- a primitive is not known, or an operation in it
abbrev pub primitive_unknown : Primitive → Bool
primitive_unknown (primitives.Assign target value) = tree_unknown value
primitive_unknown (primitives.Count counter index) = tree_unknown index
primitive_unknown (primitives.Unknown name) = true
primitive_unknown _ = false

-- an operation of the parser is not known, or an operation in it
abbrev pub parser_op_unknown : ParserOp → Bool
parser_op_unknown (ops.Set target value) = tree_unknown value
parser_op_unknown (ops.Unknown name) = true
parser_op_unknown _ = false

-- a primitive, an operation of the parser, an operator or an algorithm is not known
abbrev pub operations_unknown : RawProgram → Bool
operations_unknown raw =
    list_any (λ state. list_any parser_op_unknown state.parser_ops) raw.parser.parse_states || list_any (λ x. not (bytes_eq x.algo (codes "csum16"))) raw.calculations
    || list_any (λ x. condition_unknown x.if_cond) raw.checksums || list_any (λ action. list_any primitive_unknown action.primitives) raw.actions
    || list_any (λ x. tree_unknown x.expression) raw.pipelines.ingress.conditionals || list_any (λ x. tree_unknown x.expression) raw.pipelines.egress.conditionals

-- the expressions of a primitive are values, and the index of a count is settled
abbrev pub primitive_typed : Primitive → Bool
primitive_typed (primitives.Assign target value) = is_value value
primitive_typed (primitives.Count counter index) = is_settled_value index
primitive_typed _ = true

-- what is set in the parser is a value
abbrev pub parser_op_typed : ParserOp → Bool
parser_op_typed (ops.Set target value) = is_value value
parser_op_typed _ = true

-- a condition is a truth value, where there is one
abbrev pub condition_typed : Option Tree → Bool
condition_typed None = true
condition_typed (Some condition) = is_condition condition

-- expressions are settled where they must be, and mix no truth values and numbers
abbrev pub expressions_typed : RawProgram → Bool
expressions_typed raw =
    list_all (λ state. list_all parser_op_typed state.parser_ops) raw.parser.parse_states && list_all (λ x. condition_typed x.if_cond) raw.checksums
    && list_all (λ action. list_all primitive_typed action.primitives) raw.actions
    && list_all (λ x. is_condition x.expression) raw.pipelines.ingress.conditionals && list_all (λ x. is_condition x.expression) raw.pipelines.egress.conditionals
