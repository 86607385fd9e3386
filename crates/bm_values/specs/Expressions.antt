-- Expressions, read from JSON (BMv2 JSON form, "expressions"; what is left out: this project's profile).
use Rattle.std.specs.Prelude.{◌≡◌, ℕ, if◌then◌else◌, List, Option, Some, None, is_some, codes}
use Rattle.std.specs.Ordering.{nat_cmp, match_ordering}
use Rattle.std.specs.Cmp.Lexicographic.{slice_cmp}
use Rattle.serde_json.specs.Data.{Data, null, boolean, number, string, array, object, Members, no_members, member}
use Rattle.serde_json.specs.Find.{get, as_str, as_bool, as_null}
use Rattle.bm_values.specs.declared.raw.UnaryOperator.{UnaryOperator}
use Rattle.bm_values.specs.declared.raw.BinaryOperator.{BinaryOperator}
use Rattle.bm_values.specs.declared.kinds.ValueKind.{ValueKind}
use Rattle.bm_values.specs.declared.kinds.ValueKind.TheVariants as kinds
use Rattle.bm_values.specs.declared.kinds.Operation.{Operation}
use Rattle.bm_values.specs.declared.kinds.Operation.TheVariants as operations
use Rattle.list_types.specs.Options.{◌>>=◌}
use Rattle.json_shapes.specs.Shapes.{natural_of, required}
use Rattle.bm_values.specs.Trees.{Tree}
use Rattle.bm_values.specs.Trees as trees
use Rattle.bm_values.specs.Literals.{literal_of}
use Rattle.bm_values.specs.Kinds.{operation_of, is_left_out_operator}
use Rattle.bm_values.specs.Values.{field_name, kind_of, header_value}

-- the trees of an object's members, by their names
abbrev pub Inside : Type 0
Inside = List ℕ → Option Tree

-- an operand: a member that is a value with a type
unfoldable pub operand : Inside → List ℕ → Data → Option Tree
operand inside name d = required kind_of name d >>= λ _. inside name

-- an operation of one operand; the left one is null
unfoldable pub unary_of : Inside → UnaryOperator → Data → Option Tree
unary_of inside operator d = do
  _ ← required as_null (codes "left") d
  x ← operand inside (codes "right") d
  Some (trees.unary operator x)

-- an operation of two operands
unfoldable pub binary_of : Inside → BinaryOperator → Data → Option Tree
binary_of inside operator d = do
  x ← operand inside (codes "left") d
  y ← operand inside (codes "right") d
  Some (trees.binary operator x y)

-- a choice by a condition
unfoldable pub choice_of : Inside → Data → Option Tree
choice_of inside d = do
  condition ← operand inside (codes "cond") d
  x ← operand inside (codes "left") d
  y ← operand inside (codes "right") d
  Some (trees.choice condition x y)

-- whether a header is valid; the left operand is null
unfoldable pub valid_of : Data → Option Tree
valid_of d = do
  _ ← required as_null (codes "left") d
  header ← required header_value (codes "right") d
  Some (trees.valid header)

-- an operation of a name that is not served
abbrev pub not_served : List ℕ → Tree
not_served op = if is_left_out_operator op then trees.left_out else trees.unknown op

-- an operation of a kind
abbrev pub operation_with : Inside → Option Operation → List ℕ → Data → Option Tree
operation_with inside (Some (operations.Unary operator)) op d = unary_of inside operator d
operation_with inside (Some (operations.Binary operator)) op d = binary_of inside operator d
operation_with inside (Some operations.Valid) op d = valid_of d
operation_with inside (Some operations.Choice) op d = choice_of inside d
operation_with inside None op d = Some (not_served op)

-- an operation, by its `op`
unfoldable pub operation : Inside → Data → Option Tree
operation inside d = required as_str (codes "op") d >>= λ op. operation_with inside (operation_of op) op d

-- a value by its kind; a wrapper is read through
abbrev pub value_with : Inside → ValueKind → Data → Option Tree
value_with inside kinds.Field d = required field_name (codes "value") d >>= λ field. Some (trees.field field)
value_with inside kinds.Literal d = required literal_of (codes "value") d >>= λ literal. Some (trees.literal literal)
value_with inside kinds.Truth d = required as_bool (codes "value") d >>= λ truth. Some (trees.truth truth)
value_with inside kinds.Datum d = required natural_of (codes "value") d >>= λ index. Some (trees.datum index)
value_with inside kinds.Expression d = inside (codes "value")
value_with inside kinds.LeftOut d = Some trees.left_out
value_with inside _ d = None

-- a value, where it has a type, or else an operation
unfoldable pub tree_with : Inside → Data → Option Tree
tree_with inside d = if is_some (get (codes "type") d) then (kind_of d >>= λ kind. value_with inside kind d) else operation inside d

-- The tree of a value, and those of the members of an object, by their names.
abbrev mutual
  pub tree_of : Data → Option Tree
  tree_of null = None
  tree_of (boolean b) = None
  tree_of (number n) = None
  tree_of (string s) = None
  tree_of (array ds) = None
  tree_of (object ms) = tree_with (trees_of ms) (object ms)

  pub trees_of : Members → Inside
  trees_of no_members name = None
  trees_of (member key d ms) name = match_ordering (slice_cmp nat_cmp name key) (trees_of ms name) (tree_of d) (trees_of ms name)

-- what stands under a name, read as a tree
abbrev pub inside : Data → Inside
inside d name = get name d >>= tree_of

-- The trees of members are what their values read as, so the tree of a value is defined by those of the values in it.
abbrev pub IsRecursion : Type 0
IsRecursion = (d : Data) → tree_of d ≡ tree_with (inside d) d

-- an expression: a value with a type
unfoldable pub expression_of : Data → Option Tree
expression_of d = kind_of d >>= λ _. tree_of d
