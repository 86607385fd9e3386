-- What holds of every operation that is read, where it holds of the expressions in it.
use Rattle.std.proofs.Common.{ℕ, List, Some, codes}
use Rattle.serde_json.specs.Find.{get, as_str}
use Rattle.json_shapes.specs.Shapes.{required}
use Rattle.json_shapes.specs.Arrays.{item_count, item_at}
use Rattle.json_shapes.proofs.Keeping.{Keeps, then_kept, then_kept_by, count_kept, item_kept}
use Rattle.bm_values.specs.declared.raw.Part.{Part}
use Rattle.bm_values.specs.declared.raw.FieldName.{FieldName}
use Rattle.bm_values.specs.Trees.{Tree}
use Rattle.bm_values.specs.Values.{field_value, header_value}
use Rattle.bm_values.specs.Expressions.{expression_of}
use Rattle.bm_records.specs.declared.operations.PrimitiveKind.{PrimitiveKind}
use Rattle.bm_records.specs.declared.operations.PrimitiveKind.TheVariants as primitive_kinds
use Rattle.bm_records.specs.declared.operations.ParserOpKind.{ParserOpKind}
use Rattle.bm_records.specs.declared.operations.ParserOpKind.TheVariants as parser_op_kinds
use Rattle.bm_records.specs.declared.raw.LearnListName.{LearnListName}
use Rattle.bm_records.specs.declared.raw.ParserOp.{ParserOp}
use Rattle.bm_records.specs.declared.raw.ParserOp.TheVariants as parser_ops
use Rattle.bm_records.specs.declared.raw.Primitive.{Primitive}
use Rattle.bm_records.specs.declared.raw.Primitive.TheVariants as primitives
use Rattle.bm_records.specs.Operations.{parser_op_kind, primitive_kind}
use Rattle.bm_records.specs.Parsers.{extracted, set_of, parser_op_by, parser_op_of}
use Rattle.bm_records.specs.Primitives.{learn_list_name, counter_name, assign_of, assign_header_of, count_of, primitive_by, primitive_of}

-- P holds of an operation of a parser's state where E holds of the expression in it
pub record IsKeptOp (E : Tree → Type 0) (P : ParserOp → Type 0) : Type 0 where
  pub of_extract : (header : Part (List ℕ)) → P (parser_ops.Extract header)
  pub of_set : (target : Part FieldName) (value : Tree) → E value → P (parser_ops.Set target value)
  pub of_left_out : P parser_ops.LeftOut
  pub of_unknown : (op : List ℕ) → P (parser_ops.Unknown op)

-- P holds of a primitive where E holds of the expression in it
pub record IsKeptPrimitive (E : Tree → Type 0) (P : Primitive → Type 0) : Type 0 where
  pub of_assign : (target : Part FieldName) (value : Tree) → E value → P (primitives.Assign target value)
  pub of_add_header : (header : Part (List ℕ)) → P (primitives.AddHeader header)
  pub of_remove_header : (header : Part (List ℕ)) → P (primitives.RemoveHeader header)
  pub of_assign_header : (target source : Part (List ℕ)) → P (primitives.AssignHeader target source)
  pub of_drop : P primitives.Drop
  pub of_count : (counter : Part (List ℕ)) (index : Tree) → E index → P (primitives.Count counter index)
  pub of_generate_digest : (name : LearnListName) → P (primitives.GenerateDigest name)
  pub of_no_op : P primitives.NoOp
  pub of_left_out : P primitives.LeftOut
  pub of_unknown : (op : List ℕ) → P (primitives.Unknown op)

module _ (E : Tree → Type 0) (expression_kept : Keeps E expression_of) where
  module _ (P : ParserOp → Type 0) (kept : IsKeptOp E P) where
    set_kept : Keeps P set_of
    unfolding set_of
    set_kept d =
        then_kept P (item_at field_value 0 d) _ (λ target.
        then_kept_by E P (item_at expression_of 1 d) (λ value. Some (parser_ops.Set target value)) (item_kept E expression_of expression_kept 1 d) (kept.of_set target))

    parser_op_by_kept : (kind : ParserOpKind) (op : List ℕ) (n : ℕ) → Keeps P (parser_op_by kind op n)
    parser_op_by_kept parser_op_kinds.Extract op n d = count_kept P 1 n _ (then_kept P (extracted d) (λ header. Some (parser_ops.Extract header)) kept.of_extract)
    parser_op_by_kept parser_op_kinds.Set op n d = count_kept P 2 n (set_of d) (set_kept d)
    parser_op_by_kept parser_op_kinds.LeftOut op n d = kept.of_left_out
    parser_op_by_kept parser_op_kinds.Unknown op n d = kept.of_unknown op

    -- each operation of a parser's state
    pub parser_op_kept : Keeps P parser_op_of
    unfolding parser_op_of
    parser_op_kept d =
        then_kept P (required as_str (codes "op") d) _ (λ op. then_kept P (get (codes "parameters") d) _ (λ parameters.
        then_kept P (item_count parameters) _ (λ n. parser_op_by_kept (parser_op_kind op) op n parameters)))

  module _ (P : Primitive → Type 0) (kept : IsKeptPrimitive E P) where
    assign_kept : Keeps P assign_of
    unfolding assign_of
    assign_kept d =
        then_kept P (item_at field_value 0 d) _ (λ target.
        then_kept_by E P (item_at expression_of 1 d) (λ value. Some (primitives.Assign target value)) (item_kept E expression_of expression_kept 1 d) (kept.of_assign target))

    assign_header_kept : Keeps P assign_header_of
    unfolding assign_header_of
    assign_header_kept d =
        then_kept P (item_at header_value 0 d) _ (λ target. then_kept P (item_at header_value 1 d) (λ source. Some (primitives.AssignHeader target source)) (kept.of_assign_header target))

    counting_kept : Keeps P count_of
    unfolding count_of
    counting_kept d =
        then_kept P (item_at counter_name 0 d) _ (λ counter.
        then_kept_by E P (item_at expression_of 1 d) (λ index. Some (primitives.Count counter index)) (item_kept E expression_of expression_kept 1 d) (kept.of_count counter))

    primitive_by_kept : (kind : PrimitiveKind) (op : List ℕ) (n : ℕ) → Keeps P (primitive_by kind op n)
    primitive_by_kept primitive_kinds.Assign op n d = count_kept P 2 n (assign_of d) (assign_kept d)
    primitive_by_kept primitive_kinds.AddHeader op n d = count_kept P 1 n _ (then_kept P (item_at header_value 0 d) (λ header. Some (primitives.AddHeader header)) kept.of_add_header)
    primitive_by_kept primitive_kinds.RemoveHeader op n d = count_kept P 1 n _ (then_kept P (item_at header_value 0 d) (λ header. Some (primitives.RemoveHeader header)) kept.of_remove_header)
    primitive_by_kept primitive_kinds.AssignHeader op n d = count_kept P 2 n (assign_header_of d) (assign_header_kept d)
    primitive_by_kept primitive_kinds.Drop op n d = kept.of_drop
    primitive_by_kept primitive_kinds.Count op n d = count_kept P 2 n (count_of d) (counting_kept d)
    primitive_by_kept primitive_kinds.GenerateDigest op n d = count_kept P 2 n _ (then_kept P (item_at learn_list_name 1 d) (λ name. Some (primitives.GenerateDigest name)) kept.of_generate_digest)
    primitive_by_kept primitive_kinds.NoOp op n d = kept.of_no_op
    primitive_by_kept primitive_kinds.LeftOut op n d = kept.of_left_out
    primitive_by_kept primitive_kinds.Unknown op n d = kept.of_unknown op

    -- each primitive of an action
    pub primitive_kept : Keeps P primitive_of
    unfolding primitive_of
    primitive_kept d =
        then_kept P (required as_str (codes "op") d) _ (λ op. then_kept P (get (codes "parameters") d) _ (λ parameters.
        then_kept P (item_count parameters) _ (λ n. primitive_by_kept (primitive_kind op) op n parameters)))
