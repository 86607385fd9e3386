-- What holds of every tree that is read, where it holds of its parts.
use Rattle.std.proofs.Common.{ℕ, ◌^◌, ◌<◌, Bool, true, false, cond, IfSome, List, Option, Some, None, is_some, codes, Ordering, Less, Equal, Greater}
use Rattle.std.specs.Ordering.{nat_cmp, match_ordering}
use Rattle.std.specs.Cmp.Lexicographic.{slice_cmp}
use Rattle.serde_json.specs.Data.{Data, null, boolean, number, string, array, object, Members, no_members, member}
use Rattle.serde_json.specs.Find.{get, as_str, as_bool, as_null}
use Rattle.bm_values.specs.declared.raw.Part.{Part}
use Rattle.bm_values.specs.declared.raw.Part.TheVariants as parts
use Rattle.bm_values.specs.declared.raw.FieldName.{FieldName}
use Rattle.bm_values.specs.declared.raw.UnaryOperator.{UnaryOperator}
use Rattle.bm_values.specs.declared.raw.BinaryOperator.{BinaryOperator}
use Rattle.bm_values.specs.declared.kinds.ValueKind.{ValueKind}
use Rattle.bm_values.specs.declared.kinds.ValueKind.TheVariants as kinds
use Rattle.bm_values.specs.declared.kinds.Operation.{Operation}
use Rattle.bm_values.specs.declared.kinds.Operation.TheVariants as operations
use Rattle.list_types.specs.Options.{◌>>=◌}
use Rattle.json_shapes.specs.Shapes.{natural_of, required}
use Rattle.bm_values.specs.Trees.{Tree}
use Rattle.bm_values.specs.Trees as trees
use Rattle.bm_values.specs.Literals.{literal_of}
use Rattle.bm_values.specs.Kinds.{operation_of, is_left_out_operator}
use Rattle.bm_values.specs.Values.{field_name, kind_of, header_value}
use Rattle.bm_values.specs.Expressions.{Inside, operand, unary_of, binary_of, choice_of, valid_of, operation_with, operation, value_with, tree_with, tree_of, trees_of, expression_of}
use Rattle.json_shapes.proofs.Keeping.{Keeps, then_kept, then_kept_by, required_kept}
use Rattle.bm_values.proofs.Ranges.{literal_kept}

-- P holds of a tree where it holds of its operands, and of a literal that is left out or has at most 128 bits
pub record IsKept (P : Tree → Type 0) : Type 0 where
  pub of_field : (name : FieldName) → P (trees.field name)
  pub of_literal : (value : ℕ) → value < 2 ^ 128 → P (trees.literal (parts.Served value))
  pub of_long_literal : P (trees.literal parts.LeftOut)
  pub of_truth : (value : Bool) → P (trees.truth value)
  pub of_datum : (index : ℕ) → P (trees.datum index)
  pub of_valid : (header : Part (List ℕ)) → P (trees.valid header)
  pub of_unary : (operator : UnaryOperator) (x : Tree) → P x → P (trees.unary operator x)
  pub of_binary : (operator : BinaryOperator) (x y : Tree) → P x → P y → P (trees.binary operator x y)
  pub of_choice : (condition x y : Tree) → P condition → P x → P y → P (trees.choice condition x y)
  pub of_left_out : P trees.left_out
  pub of_unknown : (name : List ℕ) → P (trees.unknown name)

module _ (P : Tree → Type 0) (kept : IsKept P) (inside : Inside) (inside_kept : (name : List ℕ) → IfSome (inside name) P) where
  operand_kept : (name : List ℕ) → Keeps P (operand inside name)
  unfolding operand
  operand_kept name d = then_kept P (required kind_of name d) (λ _. inside name) (λ _. inside_kept name)

  unary_kept : (operator : UnaryOperator) → Keeps P (unary_of inside operator)
  unfolding unary_of
  unary_kept operator d =
      then_kept P (required as_null (codes "left") d) _ (λ _. then_kept_by P P (operand inside (codes "right") d) (λ x. Some (trees.unary operator x)) (operand_kept (codes "right") d) (kept.of_unary operator))

  binary_kept : (operator : BinaryOperator) → Keeps P (binary_of inside operator)
  unfolding binary_of
  binary_kept operator d =
      then_kept_by P P (operand inside (codes "left") d) _ (operand_kept (codes "left") d)
      (λ x x_kept. then_kept_by P P (operand inside (codes "right") d) (λ y. Some (trees.binary operator x y)) (operand_kept (codes "right") d) (λ y. kept.of_binary operator x y x_kept))

  choice_kept : Keeps P (choice_of inside)
  unfolding choice_of
  choice_kept d =
      then_kept_by P P (operand inside (codes "cond") d) _ (operand_kept (codes "cond") d)
      (λ condition condition_kept. then_kept_by P P (operand inside (codes "left") d) _ (operand_kept (codes "left") d)
      (λ x x_kept. then_kept_by P P (operand inside (codes "right") d) (λ y. Some (trees.choice condition x y)) (operand_kept (codes "right") d) (λ y. kept.of_choice condition x y condition_kept x_kept)))

  valid_kept : Keeps P valid_of
  unfolding valid_of
  valid_kept d = then_kept P (required as_null (codes "left") d) _ (λ _. then_kept P (required header_value (codes "right") d) (λ header. Some (trees.valid header)) kept.of_valid)

  not_served_kept : (op : List ℕ) (left_out : Bool) → P (cond left_out trees.left_out (trees.unknown op))
  not_served_kept op true = kept.of_left_out
  not_served_kept op false = kept.of_unknown op

  operation_by_kept : (found : Option Operation) (op : List ℕ) → Keeps P (operation_with inside found op)
  operation_by_kept (Some (operations.Unary operator)) op d = unary_kept operator d
  operation_by_kept (Some (operations.Binary operator)) op d = binary_kept operator d
  operation_by_kept (Some operations.Valid) op d = valid_kept d
  operation_by_kept (Some operations.Choice) op d = choice_kept d
  operation_by_kept None op d = not_served_kept op (is_left_out_operator op)

  operation_kept : Keeps P (operation inside)
  unfolding operation
  operation_kept d = then_kept P (required as_str (codes "op") d) (λ op. operation_with inside (operation_of op) op d) (λ op. operation_by_kept (operation_of op) op d)

  value_kept : (kind : ValueKind) → Keeps P (value_with inside kind)
  value_kept kinds.Field d = then_kept P (required field_name (codes "value") d) (λ field. Some (trees.field field)) kept.of_field
  value_kept kinds.Literal d =
      then_kept_by (λ literal. P (trees.literal literal)) P (required literal_of (codes "value") d) (λ literal. Some (trees.literal literal))
      (required_kept (λ literal. P (trees.literal literal)) literal_of (literal_kept (λ literal. P (trees.literal literal)) kept.of_long_literal kept.of_literal) (codes "value") d) (λ literal literal_is. literal_is)
  value_kept kinds.Truth d = then_kept P (required as_bool (codes "value") d) (λ truth. Some (trees.truth truth)) kept.of_truth
  value_kept kinds.Datum d = then_kept P (required natural_of (codes "value") d) (λ index. Some (trees.datum index)) kept.of_datum
  value_kept kinds.Expression d = inside_kept (codes "value")
  value_kept kinds.LeftOut d = kept.of_left_out
  value_kept _ d = tt

  by_type : (typed : Bool) → Keeps P (λ d. cond typed (kind_of d >>= λ kind. value_with inside kind d) (operation inside d))
  by_type true d = then_kept P (kind_of d) (λ kind. value_with inside kind d) (λ kind. value_kept kind d)
  by_type false d = operation_kept d

  by_parts : Keeps P (tree_with inside)
  unfolding tree_with
  by_parts d = by_type (is_some (get (codes "type") d)) d

chosen : (P : Tree → Type 0) (order : Ordering) (here other : Option Tree) → IfSome here P → IfSome other P → IfSome (match_ordering order other here other) P
chosen P Less here other here_kept other_kept = other_kept
chosen P Equal here other here_kept other_kept = here_kept
chosen P Greater here other here_kept other_kept = other_kept

mutual
  tree_kept : (P : Tree → Type 0) → IsKept P → (d : Data) → IfSome (tree_of d) P
  tree_kept P kept null = tt
  tree_kept P kept (boolean b) = tt
  tree_kept P kept (number n) = tt
  tree_kept P kept (string s) = tt
  tree_kept P kept (array ds) = tt
  tree_kept P kept (object ms) = by_parts P kept (trees_of ms) (trees_kept P kept ms) (object ms)

  trees_kept : (P : Tree → Type 0) → IsKept P → (ms : Members) (name : List ℕ) → IfSome (trees_of ms name) P
  trees_kept P kept no_members name = tt
  trees_kept P kept (member key d ms) name = chosen P (slice_cmp nat_cmp name key) (tree_of d) (trees_of ms name) (tree_kept P kept d) (trees_kept P kept ms name)

-- each expression that is read keeps P
pub expression_kept : (P : Tree → Type 0) → IsKept P → Keeps P expression_of
unfolding expression_of
expression_kept P kept d = then_kept P (kind_of d) (λ _. tree_of d) (λ _. tree_kept P kept d)
