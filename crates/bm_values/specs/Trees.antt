-- Expressions as trees.
use Rattle.std.specs.Prelude.{ℕ, suc, max, Bool, List}
use Rattle.bm_values.specs.declared.raw.Part.{Part}
use Rattle.bm_values.specs.declared.raw.FieldName.{FieldName}
use Rattle.bm_values.specs.declared.raw.UnaryOperator.{UnaryOperator}
use Rattle.bm_values.specs.declared.raw.BinaryOperator.{BinaryOperator}

-- An expression: a field, a literal, a truth constant, a datum of the action, whether a header is valid, an operation, a
-- choice by a condition, a form that is left out, or an operation of a name that is not known.
pub data Tree : Type 0 where
  field : FieldName → Tree
  literal : Part ℕ → Tree
  truth : Bool → Tree
  datum : ℕ → Tree
  valid : Part (List ℕ) → Tree
  unary : UnaryOperator → Tree → Tree
  binary : BinaryOperator → Tree → Tree → Tree
  choice : Tree → Tree → Tree → Tree
  left_out : Tree
  unknown : List ℕ → Tree

-- how many operations stand within one another
abbrev pub height : Tree → ℕ
height (unary operator x) = suc (height x)
height (binary operator x y) = suc (max (height x) (height y))
height (choice condition x y) = suc (max (height condition) (max (height x) (height y)))
height _ = 0
