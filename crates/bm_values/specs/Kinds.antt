-- Kinds of values and operators, by their names in JSON (BMv2 JSON form, "The type value object" and "expressions").
use Rattle.std.specs.Prelude.{ℕ, Bool, ◌||◌, if◌then◌else◌, List, Option, Some, None, codes}
use Rattle.std.specs.Str.{bytes_eq}
use Rattle.bm_values.specs.declared.raw.UnaryOperator.{UnaryOperator}
use Rattle.bm_values.specs.declared.raw.UnaryOperator.TheVariants as unary
use Rattle.bm_values.specs.declared.raw.BinaryOperator.{BinaryOperator}
use Rattle.bm_values.specs.declared.raw.BinaryOperator.TheVariants as operators
use Rattle.bm_values.specs.declared.kinds.ValueKind.{ValueKind}
use Rattle.bm_values.specs.declared.kinds.ValueKind.TheVariants as kinds
use Rattle.bm_values.specs.declared.kinds.Operation.{Operation}
use Rattle.bm_values.specs.declared.kinds.Operation.TheVariants as operations

-- a kind of values that is left out: of stacks, unions, registers, meters and externs, and what is looked up ahead
abbrev pub is_left_out_kind : List ℕ → Bool
is_left_out_kind kind =
    bytes_eq kind (codes "header_stack") || bytes_eq kind (codes "stack") || bytes_eq kind (codes "stack_field") || bytes_eq kind (codes "header_union") || bytes_eq kind (codes "union")
    || bytes_eq kind (codes "union_stack") || bytes_eq kind (codes "union_stack_field") || bytes_eq kind (codes "header_union_stack") || bytes_eq kind (codes "register_array") || bytes_eq kind (codes "register")
    || bytes_eq kind (codes "meter_array") || bytes_eq kind (codes "extern") || bytes_eq kind (codes "lookahead")

-- the kind of a value, by its `type`
unfoldable pub value_kind : List ℕ → ValueKind
value_kind kind =
    if bytes_eq kind (codes "field") then kinds.Field
    else if bytes_eq kind (codes "hexstr") then kinds.Literal
    else if bytes_eq kind (codes "bool") then kinds.Truth
    else if bytes_eq kind (codes "runtime_data") || bytes_eq kind (codes "local") then kinds.Datum
    else if bytes_eq kind (codes "expression") then kinds.Expression
    else if bytes_eq kind (codes "header") then kinds.Header
    else if bytes_eq kind (codes "regular") then kinds.Regular
    else if bytes_eq kind (codes "counter_array") then kinds.CounterArray
    else if bytes_eq kind (codes "learn_list") then kinds.LearnList
    else if is_left_out_kind kind then kinds.LeftOut
    else kinds.Other

-- an operator of arithmetic or of a shift, by its name
abbrev pub sum_operator : List ℕ → Option BinaryOperator
sum_operator op =
    if bytes_eq op (codes "+") then Some operators.Add
    else if bytes_eq op (codes "-") then Some operators.Subtract
    else if bytes_eq op (codes "*") then Some operators.Multiply
    else if bytes_eq op (codes "<<") then Some operators.ShiftLeft
    else if bytes_eq op (codes ">>") then Some operators.ShiftRight
    else None

-- an operator on the bits of two numbers, by its name
abbrev pub bit_operator : List ℕ → Option BinaryOperator
bit_operator op =
    if bytes_eq op (codes "&") then Some operators.BitAnd
    else if bytes_eq op (codes "|") then Some operators.BitOr
    else if bytes_eq op (codes "^") then Some operators.BitXor
    else None

-- a comparison, by its name
abbrev pub comparison : List ℕ → Option BinaryOperator
comparison op =
    if bytes_eq op (codes "==") then Some operators.Equal
    else if bytes_eq op (codes "!=") then Some operators.NotEqual
    else if bytes_eq op (codes "<") then Some operators.Less
    else if bytes_eq op (codes "<=") then Some operators.LessOrEqual
    else if bytes_eq op (codes ">") then Some operators.Greater
    else if bytes_eq op (codes ">=") then Some operators.GreaterOrEqual
    else None

-- a connective of truth values, by its name
abbrev pub connective : List ℕ → Option BinaryOperator
connective op =
    if bytes_eq op (codes "and") then Some operators.And
    else if bytes_eq op (codes "or") then Some operators.Or
    else None

-- the first of two where it is there, or else the second
abbrev pub or_else : {A : Type 0} → Option A → Option A → Option A
or_else None other = other
or_else (Some x) other = Some x

-- an operator with two operands, by its name
unfoldable pub binary_operator : List ℕ → Option BinaryOperator
binary_operator op = or_else (sum_operator op) (or_else (bit_operator op) (or_else (comparison op) (connective op)))

-- an operator with one operand, by its name
abbrev pub unary_operator : List ℕ → Option UnaryOperator
unary_operator op =
    if bytes_eq op (codes "~") then Some unary.BitNot
    else if bytes_eq op (codes "not") then Some unary.Not
    else if bytes_eq op (codes "d2b") then Some unary.ToTruth
    else if bytes_eq op (codes "b2d") then Some unary.ToNumber
    else None

-- the operation of the first operator that is there
abbrev pub operation_by : Option UnaryOperator → Option BinaryOperator → Option Operation
operation_by (Some operator) other = Some (operations.Unary operator)
operation_by None (Some operator) = Some (operations.Binary operator)
operation_by None None = None

-- the operation of a name, if it is one that is served
unfoldable pub operation_of : List ℕ → Option Operation
operation_of op =
    if bytes_eq op (codes "valid") then Some operations.Valid
    else if bytes_eq op (codes "?") then Some operations.Choice
    else operation_by (unary_operator op) (binary_operator op)

-- saturating casts, signed numbers, and the operators of stacks and unions
unfoldable pub is_left_out_operator : List ℕ → Bool
is_left_out_operator op =
    bytes_eq op (codes "sat_cast") || bytes_eq op (codes "usat_cast") || bytes_eq op (codes "two_comp_mod") || bytes_eq op (codes "dereference_header_stack") || bytes_eq op (codes "dereference_union_stack")
    || bytes_eq op (codes "last_stack_index") || bytes_eq op (codes "size_stack") || bytes_eq op (codes "access_field") || bytes_eq op (codes "access_union_header") || bytes_eq op (codes "valid_union")
